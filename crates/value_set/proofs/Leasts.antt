-- The least number that passes a test. Assumes nothing.
use Rattle.std.proofs.Common.{◌≡◌, ℕ, zero, suc, ◌/◌, ◌%◌, ◌^◌, ◌<◌, Bool, true, false, eqb, sym, refl, ap, ◌∙◌, pow-suc, arith, ◌≤◌, ⊎_elim}
use lib.Count.{count_trailing_zeros, under}
use Rattle.value_set.specs.Members.{has, Least}
use Rattle.value_set.proofs.Bits.{has-zero, has-suc}
use Rattle.std.proofs.lemmas.Bool.{cases_Bool, cases_order, true≢false}

-- there is at most one; no function needs it yet
pub least_unique : (p : ℕ → Bool) (v w : ℕ) → Least p v → Least p w → v ≡ w
least_unique p v w lv lw =
    ⊎_elim
    (λ same. same)
    (⊎_elim (λ lt. absurd (true≢false (sym lv.there ∙ lw.least v lt))) (λ lt. absurd (true≢false (sym lw.there ∙ lv.least w lt))))
    (cases_order v w)

-- tests that agree
pub least_same : (p q : ℕ → Bool) (v : ℕ) → ((k : ℕ) → p k ≡ q k) → Least p v → Least q v
least_same p q v same l = record { there = sym (same v) ∙ l.there; least = λ k lt. sym (same k) ∙ l.least k lt }

least_zero : (p : ℕ → Bool) → p 0 ≡ true → Least p 0
least_zero p there = record { there = there; least = λ k lt. absurd (omega arith) }

least_suc : (p : ℕ → Bool) (v : ℕ) → p 0 ≡ false → Least (λ k. p (suc k)) v → Least p (suc v)
least_suc p v none l = record { there = l.there; least = smaller }
  where
    smaller : (k : ℕ) → k < suc v → p k ≡ false
    smaller zero lt = none
    smaller (suc k) lt = l.least k (omega arith)

-- where some number passes there is a least one; no function needs it yet
pub least_exists : (p : ℕ → Bool) (v : ℕ) → p v ≡ true → (w : ℕ) × (w ≤ v) × Least p w
least_exists p zero there = (zero, omega arith, least_zero p there)
least_exists p (suc v) there =
    let above = least_exists (λ k. p (suc k)) v there in
    ⊎_elim
    (λ low. (zero, omega arith, least_zero p low))
    (λ none. (suc above.0, omega arith, least_suc p above.0 none above.2))
    (cases_Bool (p 0))

-- ---- the place of the lowest bit of a mask that is 1

lowest : (m t d : ℕ) → m % 2 ≡ d → (d ≡ 0 → Least (has (m / 2)) t) → Least (has m) (under d t)
lowest m t zero e rest =
    least_suc (has m) t (has-zero m ∙ ap (λ d. eqb d 1) e) (least_same (has (m / 2)) _ t (λ k. sym (has-suc m k)) (rest refl))
lowest m t (suc zero) e rest = least_zero (has m) (has-zero m ∙ ap (λ d. eqb d 1) e)
lowest m t (suc (suc d)) e rest = absurd (omega arith)

pub least_trailing : (n m : ℕ) → 0 < m → m < 2 ^ n → Least (has m) (count_trailing_zeros n m)
unfolding count_trailing_zeros
least_trailing zero m some fits = absurd (omega arith)
least_trailing (suc n) m some fits =
    lowest m (count_trailing_zeros n (m / 2)) (m % 2) refl (λ even. least_trailing n (m / 2) (omega arith) (omega (arith, pow-suc 2 n)))
