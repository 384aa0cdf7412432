-- How many records before record k have a letter, and whether some record before it is so. Assumes nothing.
use Rattle.std.proofs.Common.{◌≡◌, ℕ, zero, suc, ◌+◌, ◌≤◌, Bool, false, cond, ◌||◌, eqb, ◌⊎◌, List, Decides, refl, ap, inl, inr, ⊎_elim, add-one, arith, eq-eqb, ne_eqb}
use borrow.Author.Tests.{both_ways}
use Rattle.std.proofs.lemmas.Bool.{cases_Bool, cases_order}
use Rattle.std.proofs.lemmas.Bool.Decides.{Decides-like, Decides-or}
use Rattle.record_file.specs.Layout.{byte, count_before, SomeBefore}

module _ (file : List ℕ) (letter : ℕ) where
  count_before_step : (k : ℕ) → count_before file letter (k + 1) ≡ cond (eqb (byte file k 0) letter) 1 0 + count_before file letter k
  unfolding count_before
  count_before_step k = rw add-one refl

  pub count_before_none : count_before file letter 0 ≡ 0
  unfolding count_before
  count_before_none = refl

  pub count_before_in : (k : ℕ) → byte file k 0 ≡ letter → count_before file letter (k + 1) ≡ count_before file letter k + 1
  count_before_in k is = omega (arith, count_before_step k, ap (λ t. cond {A = ℕ} t 1 0) (eq-eqb (byte file k 0) letter is))

  pub count_before_out : (k : ℕ) → (byte file k 0 ≡ letter → ⊥) → count_before file letter (k + 1) ≡ count_before file letter k
  count_before_out k is_not =
      omega (arith, count_before_step k, ap (λ t. cond {A = ℕ} t 1 0) (ne_eqb (byte file k 0) letter is_not))

  pub count_before-le : (k : ℕ) → count_before file letter k ≤ k
  unfolding count_before
  count_before-le zero = omega arith
  count_before-le (suc k) =
      let rest = count_before-le k in
      ⊎_elim
      (λ e. omega (arith, ap (λ t. cond {A = ℕ} t 1 0) e))
      (λ e. omega (arith, ap (λ t. cond {A = ℕ} t 1 0) e))
      (cases_Bool (eqb (byte file k 0) letter))

-- no record stands before record 0
pub decides_none : (So : ℕ → Type 0) (r : Bool) → r ≡ false → Decides r (SomeBefore 0 So)
decides_none So r none = (λ yes. absurd (both_ways r none yes), λ some. absurd (omega (arith, some.1)))

module _ (So : ℕ → Type 0) (k : ℕ) where
  -- one record more: it was so before, or record k is so
  some_before_more : SomeBefore (k + 1) So → SomeBefore k So ⊎ So k
  some_before_more (j, lt, so) =
      ⊎_elim
      (λ same. inr (rw (← same) so))
      (⊎_elim (λ less. inl (j, less, so)) (λ more. absurd (omega arith)))
      (cases_order j k)

  some_before_kept : SomeBefore k So ⊎ So k → SomeBefore (k + 1) So
  some_before_kept = ⊎_elim (λ some. (some.0, omega (arith, some.1), some.2)) (λ so. (k, omega arith, so))

  pub decides_one_more : (r s : Bool) → Decides r (SomeBefore k So) → Decides s (So k) → Decides (r || s) (SomeBefore (k + 1) So)
  decides_one_more r s before here = Decides-like _ some_before_kept some_before_more (Decides-or r s before here)

  pub decides_no_more : (r : Bool) → Decides r (SomeBefore k So) → (So k → ⊥) → Decides r (SomeBefore (k + 1) So)
  decides_no_more r before not-here =
      Decides-like r (λ some. some_before_kept (inl some)) (λ some. ⊎_elim (λ s. s) (λ so. absurd (not-here so)) (some_before_more some)) before
