-- What the barred book over a book means, and what it is to bar one value. Assumes nothing.
use Rattle.std.specs.Prelude.{◌≡◌, ℕ, Bool, true, false, not, ◌&&◌, Result, MatchResult, ◌==◌}
use Rattle.value_set.specs.Blocks.{side_of}
use Rattle.value_set.specs.Members.{member}
use Rattle.value_set.specs.declared.block.Block.{Block}
use Rattle.rule_book.specs.declared.barred.BarRefusal.{BarRefusal}
use Rattle.rule_book.specs.declared.barred.BarRefusal.TheVariants.{NoSuchValue}
use Rattle.rule_book.specs.Books.{Meaning, in_set, in_row}

-- the meaning m without the barred values: those of option i are side i of the block
abbrev pub without_barred : Meaning → Block → Meaning
without_barred m barred = record {
  options = m.options;
  values = λ i v. in_set m i v && not (member (side_of barred i) v);
  together = m.together;
}

-- the value v of option i is another one than the value w of option k
abbrev pub differs : ℕ → ℕ → ℕ → ℕ → Bool
differs i v k w = not (i == k && v == w)

-- the meaning n is the meaning m without the value w of option k: it is gone from its set and from all rows, its own
-- rows are empty, and everything else is as before
pub record Loses (m : Meaning) (k w : ℕ) (n : Meaning) : Type 0 where
  pub options : n.options ≡ m.options
  pub sets : (i v : ℕ) → in_set n i v ≡ (in_set m i v && differs i v k w)
  pub rows : (i a j b : ℕ) → in_row n i a j b ≡ (in_row m i a j b && (differs i a k w && differs j b k w))

-- the number under which a refusal is told
abbrev pub refusal_number : BarRefusal → ℕ
refusal_number NoSuchValue = 13

-- what barring the value w of option k comes to, over the meaning m of the book below: it is refused if w is not in the
-- set of k, and the barred values are as before then; otherwise exactly that value is lost
abbrev pub Bars : Meaning → Block → ℕ → ℕ → Result (Unit {0}) BarRefusal → Block → Type 0
Bars m before k w r after =
    MatchResult r
    (λ _. (in_set (without_barred m before) k w ≡ true) × Loses (without_barred m before) k w (without_barred m after))
    (λ _. (in_set (without_barred m before) k w ≡ false) × (after ≡ before))
