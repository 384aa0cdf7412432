-- The files worked by hand are as the rules have it. Assumes nothing.
use Rattle.std.proofs.Common.{◌≡◌, ℕ, zero, suc, ◌+◌, ◌-◌, ◌<◌, ◌≤◌, T, eqb, leb, ◌⊎◌, List, length, get_or, sym, refl, ap, ◌∙◌, subst, inl, inr, ⊎_elim, arith, get_or-drop, eqb-true, leb-true}
use Rattle.std.proofs.lemmas.Bool.{cases_Bool}
use Rattle.std.proofs.str.Laws.{order}
use Rattle.value_set.specs.Members.{has}
use Rattle.value_set.proofs.Bits.{has_above}
use Rattle.record_file.specs.declared.fault.Layer.TheVariants.{File}
use Rattle.record_file.specs.declared.fault.Rule.{Rule}
use Rattle.record_file.specs.declared.fault.Rule.TheVariants.{TooLong, PartialRecord, NoRecord, UnknownLetter}
use Rattle.record_file.specs.declared.fault.Rule.TheVariants.{MisplacedOption, ValueCount, UnknownReference}
use Rattle.record_file.specs.declared.fault.Rule.TheVariants.{MaskBeyondValues, ReservedByte, Duplicate, TooManyInequalities}
use Rattle.record_file.specs.Layout.{byte, HasLetter, o_letter, r_letter, count_before, Gives}
use Rattle.record_file.specs.Rules.{IsTooLong, HasPartialRecord, HasUnknownLetter, IsMisplacedOption, HasWrongCount, HasUnknownAt}
use Rattle.record_file.specs.Rules.{HasMaskBeyondValues, HasNonzeroAt, Repeated, HasTooManyInequalities, unused}
use Rattle.record_file.specs.Faults.{number_of, layer_of, turn_of, fault_at, Breaks, Sooner, FirstFault, Sound, SoundFile, SoundRecord}
use Rattle.record_file.specs.WorkedExamples.{masked, examples, EachHolds}
use Rattle.record_file.proofs.Counting.{count_before_none, count_before_in}
use Rattle.record_file.proofs.FirstFaults.{sort_of, sound_by_records, first_by_records}
use Rattle.value_set.proofs.Blocks.{holds_throughout}
use Rattle.record_file.proofs.RuleOrder.{SoundBelow, record_rule, on_record, sound_below_more, first_in_record}

-- ---- files with a fault of their own

file_rules : (r : Rule) → layer_of r ≡ File → (r ≡ TooLong) ⊎ ((r ≡ PartialRecord) ⊎ (r ≡ NoRecord))
file_rules TooLong is = inl refl
file_rules PartialRecord is = inr (inl refl)
file_rules NoRecord is = inr (inr refl)
file_rules UnknownLetter is = absurd (on_record UnknownLetter (omega arith) is)
file_rules MisplacedOption is = absurd (on_record MisplacedOption (omega arith) is)
file_rules ValueCount is = absurd (on_record ValueCount (omega arith) is)
file_rules UnknownReference is = absurd (on_record UnknownReference (omega arith) is)
file_rules MaskBeyondValues is = absurd (on_record MaskBeyondValues (omega arith) is)
file_rules ReservedByte is = absurd (on_record ReservedByte (omega arith) is)
file_rules Duplicate is = absurd (on_record Duplicate (omega arith) is)
file_rules TooManyInequalities is = absurd (on_record TooManyInequalities (omega arith) is)

-- only another rule on the file, with a smaller number, is looked at sooner than one on the file
sooner_on_file : (r s : Rule) (k l : ℕ) → layer_of s ≡ File → Sooner r k s l → (layer_of r ≡ File) × (number_of r < number_of s)
sooner_on_file r s k l on_file sooner =
    let first : turn_of (layer_of s) l ≡ 0 = ap (λ x. turn_of x l) on_file in
    let less : number_of r < number_of s = ⊎_elim (λ lt. absurd (omega arith)) (λ same. same.1) sooner in
    let now : turn_of (layer_of r) k ≡ 0 = ⊎_elim (λ lt. absurd (omega arith)) (λ same. same.0 ∙ first) sooner in
    (⊎_elim (λ is. is) (λ on. absurd (omega (arith, on.1 k))) (sort_of (layer_of r)), less)

last_on_file : (s : Rule) → layer_of s ≡ File → number_of s ≤ 3
last_on_file s is =
    ⊎_elim
    (λ e. omega (arith, ap number_of e))
    (⊎_elim (λ e. omega (arith, ap number_of e)) (λ e. omega (arith, ap number_of e)))
    (file_rules s is)

-- a broken rule on the file is the first fault where no other with a smaller number is broken
module _ (file : List ℕ) (s : Rule) (on_file : layer_of s ≡ File) where
  none_sooner : (1 < number_of s → IsTooLong file → ⊥) → (2 < number_of s → HasPartialRecord file → ⊥)
      → (k : ℕ) (r : Rule) (l a : ℕ) → Breaks file r l a → Sooner r l s k → ⊥
  none_sooner short whole k r l a h sooner =
      let on = sooner_on_file r s l k on_file sooner in
      ⊎_elim
      (λ is. let long : Breaks file TooLong l a = subst (λ x. Breaks file x l a) is h in short (omega (arith, on.1, ap number_of is)) long.0)
      (⊎_elim
      (λ is. let cut : Breaks file PartialRecord l a = subst (λ x. Breaks file x l a) is h in whole (omega (arith, on.1, ap number_of is)) cut.0)
      (λ is. omega (arith, on.1, ap number_of is, last_on_file s on_file)))
      (file_rules r on.0)

  first_on_file : (k b : ℕ) → Breaks file s k b → (1 < number_of s → IsTooLong file → ⊥) → (2 < number_of s → HasPartialRecord file → ⊥)
      → FirstFault file (fault_at s k b)
  first_on_file k b broken short whole = record { broken = broken; first = none_sooner short whole k; layer = refl }

empty : (file : List ℕ) → length file ≡ 0 → FirstFault file (fault_at NoRecord 0 0)
empty file none =
    first_on_file file NoRecord refl 0 0 (none, refl, refl) (λ _ long. omega arith) (λ _ cut. cut (omega arith))

cut_short : (file : List ℕ) → length file ≡ 17 → FirstFault file (fault_at PartialRecord 1 0)
cut_short file long =
    first_on_file file PartialRecord refl 1 0 (λ whole. omega arith, omega arith, refl) (λ _ longer. omega arith) (λ lt. absurd (omega arith))

-- ---- records by themselves

unused_in_O : (b : ℕ) → T (unused o_letter b) → b ≡ 3
unused_in_O b u = ⊎_elim (eqb-true b 3) (λ e. absurd (rw e at u)) (cases_Bool (eqb b 3))

unused_in_R : (b : ℕ) → T (unused r_letter b) → 8 ≤ b
unused_in_R b u = ⊎_elim (leb-true 8 b) (λ e. absurd (rw e at u)) (cases_Bool (leb 8 b))

-- a record that breaks no rule, rule by rule
module _ (file : List ℕ) (k : ℕ) where
  sound_by_rules : (HasUnknownLetter file k → ⊥) → (IsMisplacedOption file k → ⊥) → (HasWrongCount file k → ⊥)
      → ((b : ℕ) → HasUnknownAt file k b → ⊥) → (HasMaskBeyondValues file k → ⊥) → ((b : ℕ) → HasNonzeroAt file k b → ⊥)
      → (Repeated file k → ⊥) → (HasTooManyInequalities file k → ⊥) → SoundRecord file k
  sound_by_rules n4 n5 n6 n7 n8 n9 n10 n11 TooLong b nf h = nf refl
  sound_by_rules n4 n5 n6 n7 n8 n9 n10 n11 PartialRecord b nf h = nf refl
  sound_by_rules n4 n5 n6 n7 n8 n9 n10 n11 NoRecord b nf h = nf refl
  sound_by_rules n4 n5 n6 n7 n8 n9 n10 n11 UnknownLetter b nf h = n4 h.0.broken
  sound_by_rules n4 n5 n6 n7 n8 n9 n10 n11 MisplacedOption b nf h = n5 h.0.broken
  sound_by_rules n4 n5 n6 n7 n8 n9 n10 n11 ValueCount b nf h = n6 h.0.broken
  sound_by_rules n4 n5 n6 n7 n8 n9 n10 n11 UnknownReference b nf h = n7 b h.broken.holds
  sound_by_rules n4 n5 n6 n7 n8 n9 n10 n11 MaskBeyondValues b nf h = n8 h.0.broken
  sound_by_rules n4 n5 n6 n7 n8 n9 n10 n11 ReservedByte b nf h = n9 b h.broken.holds
  sound_by_rules n4 n5 n6 n7 n8 n9 n10 n11 Duplicate b nf h = n10 h.0.broken
  sound_by_rules n4 n5 n6 n7 n8 n9 n10 n11 TooManyInequalities b nf h = n11 h.0.broken

  -- an O record is sound where its place, its count and its unused byte are right
  sound_O : HasLetter file k o_letter → (IsMisplacedOption file k → ⊥) → (HasWrongCount file k → ⊥) → byte file k 3 ≡ 0 → SoundRecord file k
  sound_O letter placed counted zero-byte =
      sound_by_rules
      (λ h. h.no_O letter)
      placed
      counted
      (λ b. ⊎_elim
      (λ h. ⊎_elim (λ r. omega (arith, letter)) (⊎_elim (λ l. omega (arith, letter)) (λ p. omega (arith, letter))) h.1.0)
      (⊎_elim
      (λ h. ⊎_elim (λ r. omega (arith, letter)) (λ p. omega (arith, letter)) h.1.0)
      (λ h. ⊎_elim (λ r. omega (arith, letter)) (λ l. omega (arith, letter)) h.1.0)))
      (λ h. omega (arith, letter, h.0))
      (λ b h. let at = unused_in_O b (subst (λ l. T (unused l b)) letter h.1) in h.2 (ap (byte file k) at ∙ zero-byte))
      (⊎_elim (λ row. omega (arith, letter, row.0)) (λ price. omega (arith, letter, price.0)))
      (λ h. omega (arith, letter, h.0))

-- ---- two options of four values, and an R record

module _ (m : ℕ) where
  first_two : (P : ℕ → Type 0) → P 0 → P 1 → (j : ℕ) → j < 2 → P j
  first_two P p0 p1 zero lt = p0
  first_two P p0 p1 (suc zero) lt = p1
  first_two P p0 p1 (suc (suc j)) lt = absurd (omega arith)

  options_first : (j : ℕ) → j < 2 → HasLetter (masked m) j o_letter
  options_first = first_two (λ j. HasLetter (masked m) j o_letter) refl refl

  file_sound : SoundFile (masked m)
  file_sound r k b is h =
      ⊎_elim
      (λ e. let long : Breaks (masked m) TooLong k b = subst (λ x. Breaks (masked m) x k b) e h in omega (arith, long.0))
      (⊎_elim
      (λ e. let cut : Breaks (masked m) PartialRecord k b = subst (λ x. Breaks (masked m) x k b) e h in cut.0 refl)
      (λ e. let none : Breaks (masked m) NoRecord k b = subst (λ x. Breaks (masked m) x k b) e h in omega (arith, none.0)))
      (file_rules r is)

  first_sound : SoundRecord (masked m) 0
  first_sound =
      let none = count_before_none (masked m) o_letter in
      sound_O (masked m) 0 refl
      (λ h. ⊎_elim (λ some. omega (arith, some.1)) (⊎_elim (λ other. other (sym none)) (λ full. omega arith)) h.1)
      (λ h. ⊎_elim (λ e. omega arith) (λ lt. omega arith) h.1)
      refl

  second_sound : SoundRecord (masked m) 1
  second_sound =
      let one : count_before (masked m) o_letter 1 ≡ 1 = omega (arith, count_before_in (masked m) o_letter 0 refl, count_before_none (masked m) o_letter) in
      sound_O (masked m) 1 refl
      (λ h. ⊎_elim (λ some. some.2 (options_first some.0 (omega (arith, some.1)))) (⊎_elim (λ other. other (sym one)) (λ full. omega arith)) h.1)
      (λ h. ⊎_elim (λ e. omega arith) (λ lt. omega arith) h.1)
      refl

  known : (o : ℕ) → o < 2 → Gives (masked m) 2 o 4
  known = first_two (λ o. Gives (masked m) 2 o 4) (0, omega arith, (refl, refl, refl)) (1, omega arith, (refl, refl, refl))

  four_values : (o n : ℕ) → Gives (masked m) 2 o n → n ≡ 4
  four_values o n (j, lt, (letter, option, count)) = sym count ∙ first_two (λ i. byte (masked m) i 2 ≡ 4) refl refl j lt

  names_known : (b : ℕ) → HasUnknownAt (masked m) 2 b → ⊥
  names_known b =
      ⊎_elim
      (λ h. h.1.1 (4, known 0 (omega arith)))
      (⊎_elim
      (λ h. h.1.1 (4, known 0 (omega arith), omega arith))
      (λ h. ⊎_elim (λ unknown. unknown (4, known 1 (omega arith))) (λ le. omega arith) h.1.1))

  rest_zero : (b : ℕ) → 8 ≤ b → byte (masked m) 2 b ≡ 0
  rest_zero b from =
      let place : 32 + b ≡ 37 + (b - 5) = omega arith in
      ap (λ i. get_or (masked m) i 0) place ∙ sym (get_or-drop 37 (masked m) (b - 5) 0) ∙ holds_throughout (λ x. x ≡ 0) 11 0 0 (b - 5) refl refl

  not_repeated : Repeated (masked m) 2 → ⊥
  not_repeated =
      ⊎_elim
      (λ row. omega (arith, options_first row.1.0 row.1.1, row.1.2.0))
      (λ price. omega (arith, price.0))

  third_sound : (HasMaskBeyondValues (masked m) 2 → ⊥) → SoundRecord (masked m) 2
  third_sound within =
      sound_by_rules (masked m) 2 (λ h. h.no_R refl) (λ h. omega (arith, h.0)) (λ h. omega (arith, h.0)) names_known within
      (λ b h. h.2 (rest_zero b (unused_in_R b h.1)))
      not_repeated
      (λ h. omega (arith, h.0))

  -- the rules that are looked at before the one on masks
  sound_below_mask : SoundBelow (masked m) 2 8
  sound_below_mask =
      sound_below_more (masked m) 2 7 UnknownReference refl (λ b h. names_known b h.broken.holds)
      (sound_below_more (masked m) 2 6 ValueCount refl (λ b h. omega (arith, h.0.broken.0))
      (sound_below_more (masked m) 2 5 MisplacedOption refl (λ b h. omega (arith, h.0.broken.0))
      (sound_below_more (masked m) 2 4 UnknownLetter refl (λ b h. h.0.broken.no_R refl)
      (λ r b nf lt. absurd (omega (arith, record_rule r nf))))))

  sound_before : (k : ℕ) → k < 2 → SoundRecord (masked m) k
  sound_before = first_two (SoundRecord (masked m)) first_sound second_sound

mask_within : Sound (masked 15)
mask_within = sound_by_records (masked 15) (file_sound 15) each
  where
    within : HasMaskBeyondValues (masked 15) 2 → ⊥
    within (letter, (n, given, (v, from, there))) =
        subst T (has_above 4 15 v (omega arith) (omega (arith, four_values 15 1 n given))) there

    each : (k : ℕ) → k < 3 → SoundRecord (masked 15) k
    each k lt =
        ⊎_elim
        (λ less. sound_before 15 k less)
        (λ at. subst (SoundRecord (masked 15)) (omega arith) (third_sound 15 within))
        (order k 2)

bit_beyond : HasMaskBeyondValues (masked 16) 2
unfolding has
bit_beyond = (refl, (4, known 16 1 (omega arith), (4, omega arith, tt)))

mask_beyond : FirstFault (masked 16) (fault_at MaskBeyondValues 2 4)
mask_beyond =
    first_by_records (masked 16) (file_sound 16) 2 _ (sound_before 16)
    (first_in_record (masked 16) 2 MaskBeyondValues 4 (on_record MaskBeyondValues (omega arith)) (record { there = omega arith; broken = bit_beyond }, refl) (sound_below_mask 16))

pub each_example_holds : EachHolds examples
each_example_holds = (
  empty,
  (cut_short, (λ file is. subst Sound (sym is) mask_within, (λ file is. subst (λ x. FirstFault x (fault_at MaskBeyondValues 2 4)) (sym is) mask_beyond, tt))),
)
