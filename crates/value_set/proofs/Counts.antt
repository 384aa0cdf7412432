-- How many numbers below a bound pass a test. Assumes nothing.
use Rattle.std.proofs.Common.{◌≡◌, ℕ, zero, suc, ◌+◌, ◌/◌, ◌%◌, ◌^◌, ◌<◌, ◌≤◌, Bool, true, false, cond, not, ◌&&◌, ◌||◌, eqb, sym, refl, ap, ◌∙◌, ap₂, ⊎_elim, le_of_eq, pow-suc, arith}
use lib.Count.{ones, ones_step}
use Rattle.std.proofs.lemmas.Bool.{cases_eq, cases_lt, cases_order, eq-eqb, eqb-true, ne_eqb, true≢false, cases_Bool}
use Rattle.value_set.specs.Members.{has, count_below}
use Rattle.value_set.proofs.Bits.{has-zero, has-suc}

-- ---- one number

one-le : (a : Bool) → cond a 1 0 ≤ 1
one-le true = omega arith
one-le false = omega arith

one_mono : (a b : Bool) → (a ≡ true → b ≡ true) → cond a 1 0 ≤ cond b 1 0
one_mono true true h = omega arith
one_mono true false h = absurd (true≢false (sym (h refl)))
one_mono false b h = omega arith

one-or : (a b : Bool) → (a ≡ true → b ≡ false) → cond (a || b) 1 0 ≡ cond a 1 0 + cond b 1 0
one-or true true h = absurd (true≢false (h refl))
one-or true false h = refl
one-or false true h = refl
one-or false false h = refl

put_back : (a b : Bool) → (b ≡ true → a ≡ true) → a ≡ ((a && not b) || b)
put_back true true h = refl
put_back true false h = refl
put_back false true h = h refl
put_back false false h = refl

apart : (a b : Bool) → (a && not b) ≡ true → b ≡ false
apart true true h = sym h
apart true false h = refl
apart false true h = sym h
apart false false h = refl

pub count_in : (n : ℕ) (p : ℕ → Bool) → p n ≡ true → count_below (suc n) p ≡ count_below n p + 1
unfolding count_below
count_in n p there = ap (λ b. count_below n p + cond b 1 0) there

pub count_out : (n : ℕ) (p : ℕ → Bool) → p n ≡ false → count_below (suc n) p ≡ count_below n p
unfolding count_below
count_out n p missing = ap (λ b. count_below n p + cond b 1 0) missing ∙ omega arith

-- where one passes
pub count_some : (n : ℕ) (p : ℕ → Bool) (v : ℕ) → v < n → p v ≡ true → 0 < count_below n p
unfolding count_below
count_some zero p v lt there = absurd (omega arith)
count_some (suc n) p v lt there =
    ⊎_elim
    (λ last. omega (arith, count_in n p (ap p (sym last) ∙ there)))
    (λ before. omega (arith, count_some n p v (omega arith) there))
    (cases_eq v n)

-- where the count is 0
pub none_count : (n : ℕ) (p : ℕ → Bool) → count_below n p ≡ 0 → (v : ℕ) → v < n → p v ≡ false
none_count n p zero-count v lt =
    ⊎_elim (λ there. absurd (omega (arith, count_some n p v lt there))) (λ missing. missing) (cases_Bool (p v))

-- ---- the count

pub count_le : (n : ℕ) (p : ℕ → Bool) → count_below n p ≤ n
unfolding count_below
count_le zero p = omega arith
count_le (suc n) p = omega (arith, count_le n p, one-le (p n))

-- tests that agree below n
pub count_same : (n : ℕ) (p q : ℕ → Bool) → ((v : ℕ) → v < n → p v ≡ q v) → count_below n p ≡ count_below n q
unfolding count_below
count_same zero p q same = refl
count_same (suc n) p q same =
    ap₂ (λ m b. m + cond b 1 0) (count_same n p q (λ v lt. same v (omega arith))) (same n (omega arith))

-- a test that passes wherever another does: a subset has no more values
pub count_mono : (n : ℕ) (p q : ℕ → Bool) → ((v : ℕ) → v < n → p v ≡ true → q v ≡ true) → count_below n p ≤ count_below n q
unfolding count_below
count_mono zero p q within = omega arith
count_mono (suc n) p q within =
    omega (arith, count_mono n p q (λ v lt. within v (omega arith)), one_mono (p n) (q n) (within n (omega arith)))

-- tests that never pass together: a disjoint union
pub count_or : (n : ℕ) (p q : ℕ → Bool) → ((v : ℕ) → v < n → p v ≡ true → q v ≡ false)
    → count_below n (λ v. p v || q v) ≡ count_below n p + count_below n q
unfolding count_below
count_or zero p q apart = refl
count_or (suc n) p q apart =
    omega (arith, count_or n p q (λ v lt. apart v (omega arith)), one-or (p n) (q n) (apart n (omega arith)))

-- where none passes
pub count_none : (n : ℕ) (p : ℕ → Bool) → ((v : ℕ) → v < n → p v ≡ false) → count_below n p ≡ 0
unfolding count_below
count_none zero p none = refl
count_none (suc n) p none = count_out n p (none n (omega arith)) ∙ count_none n p (λ v lt. none v (omega arith))

-- a larger bound, where none passes from the smaller one on
pub count_more : (n m : ℕ) (p : ℕ → Bool) → n ≤ m → ((v : ℕ) → n ≤ v → v < m → p v ≡ false) → count_below m p ≡ count_below n p
count_more n zero p le none = ap (λ k. count_below k p) (omega arith)
count_more n (suc m) p le none =
    ⊎_elim
    (λ lt. count_out m p (none m (omega arith) (omega arith)) ∙ count_more n m p (omega arith) (λ v low high. none v low (omega arith)))
    (λ ge. ap (λ k. count_below k p) (omega arith))
    (cases_lt n (suc m))

-- one number alone
pub count_single : (n k : ℕ) → k < n → count_below n (λ v. eqb v k) ≡ 1
unfolding count_below
count_single zero k lt = absurd (omega arith)
count_single (suc n) k lt =
    ⊎_elim
    (λ last. omega (arith, count_in n (λ v. eqb v k) (eq-eqb n k (sym last)), count_none n (λ v. eqb v k) (λ v below. ne_eqb v k (omega arith))))
    (λ before. omega (arith, count_out n (λ v. eqb v k) (ne_eqb n k (omega arith)), count_single n k (omega arith)))
    (cases_eq k n)

-- without one of those that pass
pub count_without : (n : ℕ) (p : ℕ → Bool) (k : ℕ) → k < n → p k ≡ true → count_below n (λ v. p v && not (eqb v k)) + 1 ≡ count_below n p
count_without n p k lt there =
    let split = count_same n p (λ v. (p v && not (eqb v k)) || eqb v k) (λ v _. put_back (p v) (eqb v k) (λ e. ap p (eqb-true v k e) ∙ there)) in
    let parts = count_or n (λ v. p v && not (eqb v k)) (λ v. eqb v k) (λ v _. apart (p v) (eqb v k)) in
    omega (arith, count_single n k lt)

-- ---- the bits of a mask that are 1

-- the count from the lowest number
count_suc : (n : ℕ) (p : ℕ → Bool) → count_below (suc n) p ≡ cond (p 0) 1 0 + count_below n (λ v. p (suc v))
unfolding count_below
count_suc zero p = omega arith
count_suc (suc n) p = omega (arith, count_suc n p)

digit : (d : ℕ) → d < 2 → cond (eqb d 1) 1 0 ≡ d
digit zero h = refl
digit (suc zero) h = refl
digit (suc (suc d)) h = absurd (omega arith)

pub ones_count : (n m : ℕ) → m < 2 ^ n → ones m ≡ count_below n (has m)
unfolding count_below ones
ones_count zero m h = let none : m ≡ 0 = omega arith in ap ones none
ones_count (suc n) m h =
    let low : cond (has m 0) 1 0 ≡ m % 2 = ap (λ b. cond b 1 0) (has-zero m) ∙ digit (m % 2) (omega arith) in
    let high = count_same n (has (m / 2)) (λ v. has m (suc v)) (λ v lt. sym (has-suc m v)) in
    omega (arith, ones_step m, ones_count n (m / 2) (omega (arith, pow-suc 2 n)), low, high, count_suc n (has m))

-- a larger bound counts no less
pub count_up : (n m : ℕ) (p : ℕ → Bool) → n ≤ m → count_below n p ≤ count_below m p
unfolding count_below
count_up n zero p le = let none : n ≡ 0 = omega arith in le_of_eq (ap (λ k. count_below k p) none)
count_up n (suc m) p le =
    ⊎_elim
    (λ lt. omega (arith, count_up n m p (omega arith)))
    (λ ge. let all : n ≡ suc m = omega arith in le_of_eq (ap (λ k. count_below k p) all))
    (cases_lt n (suc m))

-- of those that pass, no two have the same number below them
pub count_unique : (p : ℕ → Bool) (v w : ℕ) → p v ≡ true → p w ≡ true → count_below v p ≡ count_below w p → v ≡ w
count_unique p v w pv pw same =
    ⊎_elim
    (λ e. e)
    (⊎_elim
    (λ lt. absurd (omega (arith, count_in v p pv, count_up (suc v) w p lt)))
    (λ lt. absurd (omega (arith, count_in w p pw, count_up (suc w) v p lt))))
    (cases_order v w)
