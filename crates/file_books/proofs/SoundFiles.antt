-- What is known of the O records of a file that breaks no rule. Assumes nothing.
use Rattle.std.proofs.Common.{◌≡◌, ℕ, zero, suc, ◌+◌, ◌-◌, ◌%◌, ◌<◌, ◌≤◌, ◌⊎◌, List, length, refl, subst, inl, inr, ⊎_elim, arith}
use Rattle.std.proofs.lemmas.Bool.{cases_eq}
use Rattle.std.proofs.str.Laws.{order}
use Rattle.value_set.specs.Limits.{most_options, most_values}
use Rattle.record_file.specs.declared.fault.Rule.TheVariants.{PartialRecord, NoRecord, TooManyInequalities}
use Rattle.record_file.specs.Faults.{Sound, SoundRecord}
use Rattle.record_file.specs.Layout.{most_inequalities, whole_records, record_length, byte, HasLetter, o_letter, r_letter, l_letter, p_letter, count_before}
use Rattle.record_file.proofs.Counting.{count_before_none, count_before_in, count_before_out}
use Rattle.record_file.proofs.SoundRecords.{letter_known, first_known, few_values, not_misplaced}
use Rattle.file_books.specs.Domains.{HasValue}

next : (k : ℕ) → k + 1 ≡ suc k
next k = omega arith

count_grows : (file : List ℕ) (letter j k : ℕ) → j ≤ k → count_before file letter j ≤ count_before file letter k
unfolding count_before
count_grows file letter j zero le = let e : j ≡ 0 = omega arith in rw e (omega arith)
count_grows file letter j (suc k) le =
    ⊎_elim
    (λ same. rw same (omega arith))
    (λ less. omega (arith, count_grows file letter j k (omega arith)))
    (cases_eq j (suc k))

module _ {file : List ℕ} (sound : Sound file) where
  pub sound_record : (k : ℕ) → SoundRecord file k
  sound_record k r b on = sound r k b

  some_record : 0 < whole_records file
  some_record =
      ⊎_elim
      (λ lt. lt)
      (λ le. ⊎_elim
      (λ whole. absurd (sound NoRecord 0 0 (omega arith, refl, refl)))
      (λ part. absurd (sound PartialRecord (whole_records file) 0 (part, refl, refl)))
      (cases_eq (length file % record_length) 0))
      (order 0 (whole_records file))

  -- an R, L or P record names an option that is given before it, so none is the first record
  first_is_option : HasLetter file 0 o_letter
  first_is_option =
      ⊎_elim (λ is. is) (λ no_O. ⊎_elim (λ is. absurd (no_first (inl is))) (λ no_R. ⊎_elim (λ is. absurd (no_first (inr (inl is))))
      (λ no_L. ⊎_elim (λ is. absurd (no_first (inr (inr is)))) (λ no_P. absurd (letter_known some_record (sound_record 0) (record { no_O = no_O; no_R = no_R; no_L = no_L; no_P = no_P })))
      (cases_eq (byte file 0 0) p_letter)) (cases_eq (byte file 0 0) l_letter)) (cases_eq (byte file 0 0) r_letter)) (cases_eq (byte file 0 0) o_letter)
    where
      no_first : HasLetter file 0 r_letter ⊎ (HasLetter file 0 l_letter ⊎ HasLetter file 0 p_letter) → ⊥
      no_first is = first_known some_record (sound_record 0) (is, λ known. omega (arith, known.1.1))

  module _ (k : ℕ) (there : k < whole_records file) (letter : HasLetter file k o_letter) where
    pub option_room : count_before file o_letter k < 12
    option_room =
        ⊎_elim (λ lt. lt) (λ ge. absurd (not_misplaced there (sound_record k) (letter, inr (inr ge)))) (order (count_before file o_letter k) 12)

    -- it gives the next option
    option_next : byte file k 1 ≡ count_before file o_letter k
    option_next =
        ⊎_elim
        (λ same. same)
        (λ differs. absurd (not_misplaced there (sound_record k) (letter, inr (inl differs))))
        (cases_eq (byte file k 1) (count_before file o_letter k))

    pub option_small : byte file k 1 < most_options
    option_small = omega (arith, option_room, option_next)

    option_counted : byte file k 1 < count_before file o_letter (whole_records file)
    option_counted =
        omega (arith, option_next, count_before_in file o_letter k letter, count_grows file o_letter (k + 1) (whole_records file) (omega arith))

  pub inequality_room : (k : ℕ) → k < whole_records file → HasLetter file k l_letter → count_before file l_letter k < most_inequalities
  inequality_room k there letter =
      ⊎_elim
      (λ lt. lt)
      (λ ge. absurd (sound TooManyInequalities k 0 (record { there = there; broken = (letter, ge) }, refl)))
      (order (count_before file l_letter k) most_inequalities)

  -- there are at most twelve O records, and one of them is the first record
  record_more : (k : ℕ) → k < whole_records file → count_before file o_letter k ≤ 12 → count_before file o_letter (k + 1) ≤ 12
  record_more k there le =
      ⊎_elim
      (λ is. omega (arith, count_before_in file o_letter k is, option_room k there is))
      (λ is_not. omega (arith, count_before_out file o_letter k is_not))
      (cases_eq (byte file k 0) o_letter)

  pub few_options : (k : ℕ) → k ≤ whole_records file → count_before file o_letter k ≤ 12
  few_options zero le = omega (arith, count_before_none file o_letter)
  few_options (suc k) le =
      subst (λ n. count_before file o_letter n ≤ 12) (next k) (record_more k (omega arith) (few_options k (omega arith)))

  some_more : (k : ℕ) → 1 ≤ count_before file o_letter k → 1 ≤ count_before file o_letter (k + 1)
  some_more k some =
      ⊎_elim
      (λ is. omega (arith, count_before_in file o_letter k is))
      (λ is_not. omega (arith, count_before_out file o_letter k is_not))
      (cases_eq (byte file k 0) o_letter)

  some_up_to : (k : ℕ) → 1 ≤ count_before file o_letter (k + 1)
  some_up_to zero = omega (arith, count_before_in file o_letter 0 first_is_option)
  some_up_to (suc k) = some_more (suc k) (subst (λ n. 1 ≤ count_before file o_letter n) (next k) (some_up_to k))

  pub some_option : 1 ≤ count_before file o_letter (whole_records file)
  some_option =
      let e : whole_records file - 1 + 1 ≡ whole_records file = omega (arith, some_record) in
      subst (λ k. 1 ≤ count_before file o_letter k) e (some_up_to (whole_records file - 1))

  -- what the O records give is within the options that they give, and within the limits
  pub value_counted : (i v : ℕ) → HasValue file i v → (i < count_before file o_letter (whole_records file)) × (v < most_values)
  value_counted i v (m, (k, there, (letter, option, is)), below) = (
    omega (arith, option_counted k there letter),
    omega (arith, few_values there (sound_record k) letter),
  )
