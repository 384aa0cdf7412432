-- What the book means in which near values go together. Assumes nothing.
use Rattle.std.specs.Prelude.{ℕ, ◌+◌, Bool, ◌&&◌, nat_le, nat_lt}
use Rattle.rule_book.specs.Books.{Meaning}

-- whether two numbers differ by at most one
abbrev pub near : ℕ → ℕ → Bool
near a b = nat_le a (b + 1) && nat_le b (a + 1)

-- so many options with so many values each, of which near ones go together
abbrev pub near_meaning : ℕ → ℕ → Meaning
near_meaning options count = record {
  options = options;
  values = λ _ v. nat_lt v count;
  together = λ _ a _ b. near a b;
}
