-- A set that is not within the first m values has a value from m on. Assumes nothing.
use Rattle.std.proofs.Common.{◌≡◌, ℕ, zero, suc, ◌^◌, ◌<◌, ◌≤◌, Bool, true, false, ◌&&◌, T, ltb, leb, ◌⊎◌, sym, refl, ap, ◌∙◌, ap₂, inl, inr, ⊎_elim, arith, lt-ltb, ltb-true, leb-false, leb-true}
use borrow.Author.Tests.{clash}
use Rattle.std.proofs.lemmas.Float.{T_from_true}
use Rattle.std.proofs.lemmas.Bool.{and_parts, cases_Bool, cases_order}
use Rattle.value_set.specs.declared.set.ValueSet.{ValueSet}
use Rattle.value_set.specs.Members.{member, Within}
use Rattle.value_set.proofs.Bits.{has_below}

-- some number below n passes the test, or none does
some_below : (n : ℕ) (p : ℕ → Bool) → ((v : ℕ) × (v < n) × (p v ≡ true)) ⊎ ((v : ℕ) → v < n → p v ≡ false)
some_below zero p = inr (λ v lt. absurd (omega arith))
some_below (suc n) p =
    ⊎_elim
    (λ found. inl (found.0, omega (arith, found.1), found.2))
    (λ none.
    ⊎_elim
    (λ here. inl (n, omega arith, here))
    (λ here. inr (λ v lt. ⊎_elim (λ same. ap p same ∙ here) (⊎_elim (λ below. none v below) (λ above. absurd (omega arith))) (cases_order v n)))
    (cases_Bool (p n)))
    (some_below n p)

-- the first m values of those below 32, at a value below m
in_first : (m v : ℕ) → v < 32 → v < m → (ltb v m && ltb v 32) ≡ true
in_first m v low lt = ap₂ ◌&&◌ (lt-ltb v m lt) (lt-ltb v 32 low)

not_there : (a b : Bool) → (a && b) ≡ false → a ≡ true → b ≡ false
not_there true b e t = e
not_there false b e t = absurd (clash t)

pub value_beyond : (m : ℕ) (s t : ValueSet) → s.mask < 2 ^ 32 → ((v : ℕ) → member t v ≡ (ltb v m && ltb v 32)) → (Within s t → ⊥) → (v : ℕ) × (m ≤ v) × T (member s v)
value_beyond m s t fits first outside =
    ⊎_elim
    (λ found. let both = and_parts _ _ found.2 in (found.0, leb-true _ _ both.1, T_from_true _ both.0))
    (λ none.
    absurd (outside (λ v there.
    let low = has_below 32 s.mask v fits there in
    first v ∙ in_first m v low (leb-false _ _ (not_there _ _ (none v low) there)))))
    (some_below 32 (λ v. member s v && leb m v))

from_true : (b : Bool) → T b → b ≡ true
from_true true t = refl
from_true false t = elim t [ ]

-- a set that is within them has none
pub none_beyond : (m : ℕ) (s t : ValueSet) → ((v : ℕ) → member t v ≡ (ltb v m && ltb v 32)) → Within s t → (v : ℕ) → m ≤ v → T (member s v) → ⊥
none_beyond m s t first inside v from there =
    let both = and_parts (ltb v m) (ltb v 32) (sym (first v) ∙ inside v (from_true _ there)) in
    omega (arith, ltb-true _ _ both.0)
