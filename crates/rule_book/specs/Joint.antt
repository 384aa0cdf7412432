-- What the joint book of two books means. Assumes nothing.
use Rattle.std.specs.Prelude.{min, ◌&&◌}
use Rattle.rule_book.specs.Books.{Meaning, in_set, in_row}

-- the smaller number of options, the values that are in both sets and the pairs that are in both rows
abbrev pub joint : Meaning → Meaning → Meaning
joint l r = record {
  options = min l.options r.options;
  values = λ i v. in_set l i v && in_set r i v;
  together = λ i a j b. in_row l i a j b && in_row r i a j b;
}
