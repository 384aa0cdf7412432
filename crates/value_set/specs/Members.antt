-- Which values a set has, and how many. Assumes nothing.
use Rattle.std.specs.Prelude.{◌≡◌, ℕ, zero, suc, ◌+◌, ◌/◌, ◌%◌, ◌^◌, ◌<◌, Bool, true}
use Rattle.std.specs.Prelude.{false, cond, not, ◌&&◌, List, [], ◌∷◌, ◌++◌, Some, None, Option, ◌==◌}
use Rattle.value_set.specs.declared.set.ValueSet.{ValueSet}
use Rattle.value_set.specs.Limits.{most_values}

-- whether value v is in the set with mask m: bit v of m is 1
unfoldable pub has : ℕ → ℕ → Bool
has m v = m / 2 ^ v % 2 == 1

-- whether value v is in the set s
abbrev pub member : ValueSet → ℕ → Bool
member s v = has s.mask v

-- the set s has no value
abbrev pub NoMember : ValueSet → Type 0
NoMember s = (v : ℕ) → member s v ≡ false

-- each value of the set s is in the set t
abbrev pub Within : ValueSet → ValueSet → Type 0
Within s t = (v : ℕ) → member s v ≡ true → member t v ≡ true

-- the set t is the set s without the value k
abbrev pub Without : ValueSet → ℕ → ValueSet → Type 0
Without s k t = (v : ℕ) → member t v ≡ (member s v && not (v == k))

-- v is the least number that passes the test p
pub record Least (p : ℕ → Bool) (v : ℕ) : Type 0 where
  pub there : p v ≡ true
  pub least : (k : ℕ) → k < v → p k ≡ false

-- how many numbers below n pass the test p
unfoldable pub count_below : ℕ → (ℕ → Bool) → ℕ
count_below zero p = 0
count_below (suc n) p = count_below n p + cond (p n) 1 0

-- the numbers below n that pass the test p, in ascending order
unfoldable pub list_below : ℕ → (ℕ → Bool) → List ℕ
list_below zero p = []
list_below (suc n) p = list_below n p ++ cond (p n) (n ∷ []) []

-- the mask of the set of the numbers below n that pass the test p
unfoldable pub mask_below : ℕ → (ℕ → Bool) → ℕ
mask_below zero p = 0
mask_below (suc n) p = mask_below n p + cond (p n) (2 ^ n) 0

-- how many values the set s has
abbrev pub size : ValueSet → ℕ
size s = count_below most_values (member s)

-- of the numbers below n that pass the test p, v is the one that has i smaller ones
pub record Placed (n : ℕ) (p : ℕ → Bool) (i v : ℕ) : Type 0 where
  pub below : v < n
  pub there : p v ≡ true
  pub before : count_below v p ≡ i

-- the value v of the set s has i smaller ones
abbrev pub Nth : ValueSet → ℕ → ℕ → Type 0
Nth s i v = Placed most_values (member s) i v

-- one step through the values of the set s: r comes, the least of them or `None`, and the set t is left
abbrev pub Next : ValueSet → Option ℕ → ValueSet → Type 0
Next s None t = NoMember s × (t ≡ s)
Next s (Some v) t = (v < most_values) × Least (member s) v × Without s v t
