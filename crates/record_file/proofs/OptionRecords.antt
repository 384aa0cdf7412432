-- What the records before record k give, where none of them breaks a rule: those that give options come first, and each
-- gives the option of its own number. Assumes nothing.
use Rattle.std.proofs.Common.{◌≡◌, ℕ, zero, suc, ◌+◌, ◌<◌, ◌≤◌, Bool, true, false, cond, not, ltb, leb, ◌-◌, ◌⊎◌, List, Option, Some, None, is_some, MatchOption, Decides, sym, refl, ap, ◌∙◌, subst, inl, inr, ⊎_elim, arith, eq-eqb, le-leb, lt-ltb, leb-true, ltb-true}
use borrow.Author.Tests.{clash}
use Rattle.std.proofs.lemmas.Bool.{cases_eq}
use Rattle.std.proofs.str.Laws.{order}
use Rattle.value_set.specs.Limits.{most_options, most_values}
use Rattle.record_file.specs.Layout.{whole_records, byte, HasLetter, o_letter, r_letter, l_letter, p_letter, count_before, Gives, KnownOption, KnownValue}
use Rattle.record_file.specs.Rules.{FollowsAnotherKind}
use Rattle.record_file.specs.Faults.{SoundRecord}
use Rattle.record_file.proofs.Counting.{count_before_none, count_before_out, count_before-le}
use Rattle.record_file.proofs.SoundRecords.{not_misplaced, first_known, second_known, third_known, few_values}

-- a test of Q is one of P and Q where P is known
pub decides_beside : {P Q : Type 0} (r : Bool) → P → Decides r Q → Decides r (P × Q)
decides_beside r p h = (λ t. (p, h.0 t), λ both. h.1 both.1)

-- whether a search found nothing tells whether there is nothing
pub decides_absent : {K : ℕ → Type 0} (r : Option ℕ) (b : Bool) → is_some r ≡ not b → MatchOption r (((m : ℕ) × K m) → ⊥) K
    → Decides b (((m : ℕ) × K m) → ⊥)
decides_absent None true e none = (λ _. none, λ _. refl)
decides_absent None false e none = absurd (clash e)
decides_absent (Some m) true e found = absurd (clash (sym e))
decides_absent (Some m) false e found = (λ t. absurd (clash t), λ none. absurd (none (m, found)))

pub found_some : (A : Type 0) {K : ℕ → Type 0} (r : Option ℕ) (b : Bool) → is_some r ≡ not b → b ≡ false → MatchOption r A K → (m : ℕ) × K m
found_some A None true e is h = absurd (clash (sym is))
found_some A None false e is h = absurd (clash e)
found_some A (Some m) b e is h = (m, h)

-- where all records are O records, they are counted by their number
count_all : (file : List ℕ) (n : ℕ) → ((i : ℕ) → i < n → HasLetter file i o_letter) → count_before file o_letter n ≡ n
unfolding count_before
count_all file zero all = count_before_none file o_letter
count_all file (suc n) all =
    let here = ap (λ t. cond {A = ℕ} t 1 0) (eq-eqb (byte file n 0) o_letter (all n (omega arith))) in
    omega (arith, here, count_all file n (λ i lt. all i (omega arith)))

module _ {file : List ℕ} {k : ℕ} (there : k ≤ whole_records file) (sound : (j : ℕ) → j < k → SoundRecord file j) where
  -- an O record follows O records alone
  leading : (j : ℕ) → j < k → HasLetter file j o_letter → (i : ℕ) → i < j → HasLetter file i o_letter
  leading j lt letter i less =
      ⊎_elim
      (λ is. is)
      (λ other. absurd (not_misplaced (omega arith) (sound j lt) (letter, inl (i, less, other))))
      (cases_eq (byte file i 0) o_letter)

  -- of the records before this one, the last tells whether all are O records
  pub follows_last : (j : ℕ) → j + 1 ≡ k → FollowsAnotherKind file k → HasLetter file j o_letter → ⊥
  follows_last j last (i, lt, other) letter =
      ⊎_elim
      (λ same. other (subst (λ n. HasLetter file n o_letter) (sym same) letter))
      (λ differs. other (leading j (omega arith) letter i (omega arith)))
      (cases_eq i j)

  pub all_options : (FollowsAnotherKind file k → ⊥) → count_before file o_letter k ≡ k
  all_options alone =
      count_all file k (λ i lt. ⊎_elim (λ is. is) (λ other. absurd (alone (i, lt, other))) (cases_eq (byte file i 0) o_letter))

  -- whether all are O records, by how many of them are
  pub decides_follows : Decides (ltb (count_before file o_letter k) k) (FollowsAnotherKind file k)
  decides_follows = (
    λ fewer.
        let less = ltb-true _ _ fewer in
        let last : k - 1 + 1 ≡ k = omega arith in
        ⊎_elim
        (λ same. absurd (omega (arith, all_options (λ follows. follows_last (k - 1) last follows same))))
        (λ other. (k - 1, omega arith, other))
        (cases_eq (byte file (k - 1) 0) o_letter),
    λ follows.
        let last : k - 1 + 1 ≡ k = omega (arith, follows.1) in
        ⊎_elim
        (λ same. absurd (follows_last (k - 1) last follows same))
        (λ other.
        let fewer = subst (λ n. count_before file o_letter n ≡ count_before file o_letter (k - 1)) last (count_before_out file o_letter (k - 1) other) in
        lt-ltb _ _ (omega (arith, follows.1, fewer, count_before-le file o_letter (k - 1))))
        (cases_eq (byte file (k - 1) 0) o_letter),
  )

  module _ (j : ℕ) (lt : j < k) (letter : HasLetter file j o_letter) where
    counted : count_before file o_letter j ≡ j
    counted = count_all file j (leading j lt letter)

    pub option_number : byte file j 1 ≡ j
    option_number =
        ⊎_elim
        (λ same. same ∙ counted)
        (λ differs. absurd (not_misplaced (omega arith) (sound j lt) (letter, inr (inl differs))))
        (cases_eq (byte file j 1) (count_before file o_letter j))

    option_room : j < most_options
    option_room =
        ⊎_elim
        (λ less. less)
        (λ ge. absurd (not_misplaced (omega arith) (sound j lt) (letter, inr (inr (omega (arith, counted))))))
        (order j most_options)

  -- the record that gives an option has its number
  pub given_at : (o m : ℕ) → Gives file k o m → (o < k) × HasLetter file o o_letter × (byte file o 2 ≡ m)
  given_at o m (j, lt, (letter, option, count)) =
      let same : j ≡ o = sym (option_number j lt letter) ∙ option in
      (omega arith, subst (λ n. HasLetter file n o_letter) same letter, subst (λ n. byte file n 2 ≡ m) same count)

  pub one_count : (o m n : ℕ) → Gives file k o m → Gives file k o n → m ≡ n
  one_count o m n given again = omega (arith, (given_at o m given).2, (given_at o n again).2)

  pub gives_own : (o : ℕ) → o < k → HasLetter file o o_letter → Gives file k o (byte file o 2)
  gives_own o lt letter = (o, lt, (letter, option_number o lt letter, refl))

  option_small : (o : ℕ) → KnownOption file k o → o < most_options
  option_small o (m, given) = let at = given_at o m given in option_room o at.0 at.1

  value_small : (o v : ℕ) → KnownValue file k o v → v < most_values
  value_small o v (m, given, less) =
      let at = given_at o m given in omega (arith, less, at.2, few_values (omega arith) (sound o at.0) at.1)

  pub decides_unknown_value : (o v m : ℕ) → Gives file k o m → Decides (leb m v) (KnownValue file k o v → ⊥)
  decides_unknown_value o v m given = (
    λ beyond known. omega (arith, known.2, (given_at o m given).2, (given_at o known.0 known.1).2, leb-true _ _ beyond),
    λ unknown. ⊎_elim (λ below. absurd (unknown (m, given, below))) (le-leb _ _) (order v m),
  )

  -- what a record names that breaks no rule either is within the limits
  module _ (in_file : k < whole_records file) (here : SoundRecord file k) where
    not_unknown : (n : ℕ) → (KnownOption file k n → n < most_options) → ((KnownOption file k n → ⊥) → ⊥) → n < most_options
    not_unknown n small known = ⊎_elim (λ lt. lt) (λ ge. absurd (known (λ is. omega (arith, small is)))) (order n most_options)

    pub named_option : HasLetter file k r_letter ⊎ (HasLetter file k l_letter ⊎ HasLetter file k p_letter) → byte file k 1 < most_options
    named_option letter = not_unknown _ (option_small _) (λ unknown. first_known in_file here (letter, unknown))

    pub named_value : HasLetter file k r_letter ⊎ HasLetter file k p_letter → byte file k 2 < most_values
    named_value letter =
        ⊎_elim
        (λ lt. lt)
        (λ ge. absurd (second_known in_file here (letter, λ known. omega (arith, value_small _ _ known))))
        (order (byte file k 2) most_values)

    pub named_other : HasLetter file k r_letter ⊎ HasLetter file k l_letter → byte file k 3 < most_options
    named_other letter = not_unknown _ (option_small _) (λ unknown. third_known in_file here (letter, inl unknown))

-- an O record that breaks no rule, as none before it does, has the number of its option
pub own_option : {file : List ℕ} {k : ℕ} → k < whole_records file → ((j : ℕ) → j ≤ k → SoundRecord file j) → HasLetter file k o_letter → (byte file k 1 ≡ k) × (k < most_options)
own_option {k = k} there sound letter = (
  option_number {k = k + 1} (omega arith) (λ j lt. sound j (omega arith)) k (omega arith) letter,
  option_room {k = k + 1} (omega arith) (λ j lt. sound j (omega arith)) k (omega arith) letter,
)
