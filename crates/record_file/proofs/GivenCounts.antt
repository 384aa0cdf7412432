-- How many values an option has by the records before record k, and by one record more. Assumes nothing.
use Rattle.std.proofs.Common.{◌≡◌, ℕ, get_or, set, cond, ◌+◌, ◌<◌, Bool, false, ◌&&◌, ltb, eqb, List, length, sym, ◌∙◌, ap, ap₂, subst, ⊎_elim, arith, lt-ltb, eq-eqb, eqb-true, ltb-true}
use Rattle.std.proofs.lemmas.Bool.{and_parts, cases_Bool, cases_eq, cond-true, cond-false, ne_eqb}
use Rattle.std.proofs.lemmas.Bool.Decides.{nat_tests}
use Rattle.std.proofs.lemmas.List.{get_or-set_same, get_or-set_other}
use Rattle.record_file.specs.Layout.{byte, HasLetter, o_letter}
use Rattle.record_file.specs.Tallies.{values_before}

pub values_none : (file : List ℕ) (o : ℕ) → values_before file 0 o ≡ 0
values_none file o =
    let past : ◌≡◌ {A = Bool} (ltb o 0) false = grind (arith, nat_tests) in
    ap (λ t. cond (t && eqb (byte file o 0) o_letter) (byte file o 2) 0) past

module _ (file : List ℕ) (k : ℕ) where
  pub values_at : (o : ℕ) → o < k → HasLetter file o o_letter → values_before file k o ≡ byte file o 2
  values_at o lt letter =
      cond-true (ltb o k && eqb (byte file o 0) o_letter) _ _ (ap₂ ◌&&◌ (lt-ltb o k lt) (eq-eqb (byte file o 0) o_letter letter))

  -- only an O record gives values
  pub values_given : (o : ℕ) → 0 < values_before file k o → (o < k) × HasLetter file o o_letter
  values_given o some =
      ⊎_elim
      (λ yes. let both = and_parts (ltb o k) (eqb (byte file o 0) o_letter) yes in (ltb-true _ _ both.0, eqb-true _ _ both.1))
      (λ no. absurd (omega (arith, some, cond-false (ltb o k && eqb (byte file o 0) o_letter) (byte file o 2) 0 no)))
      (cases_Bool (ltb o k && eqb (byte file o 0) o_letter))

  -- one record more leaves what other options have
  other_kept : (o : ℕ) → (o ≡ k → ⊥) → values_before file (k + 1) o ≡ values_before file k o
  other_kept o differs =
      let test : ◌≡◌ {A = Bool} (ltb o (k + 1)) (ltb o k) = grind (arith, nat_tests) in
      ap (λ t. cond (t && eqb (byte file o 0) o_letter) (byte file o 2) 0) test

  -- and what each has, where it is no O record
  pub values_kept : (HasLetter file k o_letter → ⊥) → (o : ℕ) → values_before file (k + 1) o ≡ values_before file k o
  values_kept other o =
      ⊎_elim
      (λ same.
      let out : ◌≡◌ {A = Bool} (eqb (byte file o 0) o_letter) false = ne_eqb (byte file o 0) o_letter (λ e. other (rw (← same) e)) in
      let test : ◌≡◌ {A = Bool} (ltb o (k + 1) && eqb (byte file o 0) o_letter) (ltb o k && eqb (byte file o 0) o_letter) = grind (arith, nat_tests) in
      ap (λ t. cond t (byte file o 2) 0) test)
      (other_kept o)
      (cases_eq o k)

module _ (file : List ℕ) (k : ℕ) where
  -- an O record gives those of its own number
  pub values_added : (counts : List ℕ) (option count : ℕ) → HasLetter file k o_letter → option ≡ k → count ≡ byte file k 2 → k < length counts
      → ((o : ℕ) → get_or counts o 0 ≡ values_before file k o) → (o : ℕ) → get_or (set counts option count) o 0 ≡ values_before file (k + 1) o
  values_added counts option count letter number is room before o =
      ⊎_elim
      (λ same.
      let last = get_or-set_same counts k count 0 room ∙ is ∙ sym (values_at file (k + 1) k (omega arith) letter) in
      subst (λ n. get_or (set counts option count) n 0 ≡ values_before file (k + 1) n) (sym same)
      (subst (λ n. get_or (set counts n count) k 0 ≡ values_before file (k + 1) k) (sym number) last))
      (λ differs. get_or-set_other counts option o count 0 (λ e. differs (e ∙ number)) ∙ before o ∙ sym (other_kept file k o differs))
      (cases_eq o k)
