-- What is known of a record that breaks no rule. Assumes nothing.
use Rattle.std.proofs.Common.{ℕ, ◌<◌, ◌≤◌, List, refl, inl, inr, ⊎_elim, arith}
use Rattle.std.proofs.str.Laws.{order}
use Rattle.record_file.specs.declared.fault.Rule.{Rule}
use Rattle.record_file.specs.declared.fault.Rule.TheVariants.{UnknownLetter, MisplacedOption, ValueCount, UnknownReference}
use Rattle.record_file.specs.Layout.{whole_records, byte, HasLetter, o_letter}
use Rattle.record_file.specs.Rules.{HasUnknownLetter, IsMisplacedOption, HasWrongCount, HasUnknownFirst, HasUnknownValue, HasUnknownSecond}
use Rattle.record_file.specs.Faults.{number_of, Breaks, SoundRecord}
use Rattle.record_file.proofs.FirstBytes.{first_is_1, first_is_2, first_is_3}
use Rattle.record_file.proofs.RuleOrder.{on_record}

module _ {file : List ℕ} {k : ℕ} (there : k < whole_records file) (sound : SoundRecord file k) where
  unbroken : (r : Rule) (b : ℕ) → 3 < number_of r → Breaks file r k b → ⊥
  unbroken r b on = sound r b (on_record r on)

  pub letter_known : HasUnknownLetter file k → ⊥
  letter_known broken = unbroken UnknownLetter 0 (omega arith) (record { there = there; broken = broken }, refl)

  pub not_misplaced : IsMisplacedOption file k → ⊥
  not_misplaced broken = unbroken MisplacedOption 1 (omega arith) (record { there = there; broken = broken }, refl)

  pub count_right : HasWrongCount file k → ⊥
  count_right broken = unbroken ValueCount 2 (omega arith) (record { there = there; broken = broken }, refl)

  pub first_known : HasUnknownFirst file k → ⊥
  first_known broken =
      unbroken UnknownReference 1 (omega arith) (record { there = there; broken = first_is_1 _ _ _ broken })

  pub second_known : HasUnknownValue file k → ⊥
  second_known broken =
      unbroken UnknownReference 2 (omega arith) (record { there = there; broken = first_is_2 _ _ _ first_known broken })

  pub third_known : HasUnknownSecond file k → ⊥
  third_known broken =
      unbroken UnknownReference 3 (omega arith) (record { there = there; broken = first_is_3 _ _ _ first_known second_known broken })

  pub some_values : HasLetter file k o_letter → 0 < byte file k 2
  some_values letter =
      ⊎_elim (λ none. absurd (count_right (letter, inl (omega arith)))) (λ some. some) (order (byte file k 2) 1)

  pub few_values : HasLetter file k o_letter → byte file k 2 ≤ 32
  few_values letter =
      ⊎_elim (λ gt. absurd (count_right (letter, inr gt))) (λ le. le) (order 32 (byte file k 2))
