-- Which value is the cheapest. Assumes nothing.
use Rattle.std.specs.Prelude.{◌≡◌, ℕ, ◌<◌, ◌≤◌, Bool, true, false, cond, Some, None, Option, nat_le}
use Rattle.book_report.specs.declared.cheapest.Cheapest.{Cheapest}

-- no value passes the test p
abbrev pub NoValue : (ℕ → Bool) → Type 0
NoValue p = (v : ℕ) → p v ≡ false

-- c is the cheapest value that passes the test p, with its price: none costs less, and each smaller one costs more
pub record CheapestOf (p : ℕ → Bool) (price : ℕ → ℕ) (c : Cheapest) : Type 0 where
  pub there : p c.value ≡ true
  pub cost : c.price ≡ price c.value
  pub cheapest : (v : ℕ) → p v ≡ true → c.price ≤ price v
  pub least : (v : ℕ) → v < c.value → p v ≡ true → c.price < price v

-- of what was found, if anything, and what comes next, the cheaper one; the first where both cost the same
abbrev pub cheaper : Option Cheapest → Cheapest → Cheapest
cheaper None c = c
cheaper (Some b) c = cond (nat_le b.price c.price) b c
