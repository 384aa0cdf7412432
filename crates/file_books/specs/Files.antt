-- The books that are made from a record file. Assumes nothing.
use Rattle.std.specs.Prelude.{◌≡◌, ℕ, ◌<◌, false, cond, ◌&&◌, List, Decides, ◌==◌, nat_lt}
use Rattle.value_set.specs.Blocks.{side_of}
use Rattle.value_set.specs.Members.{member}
use Rattle.record_file.specs.Layout.{whole_records, count_before, o_letter}
use Rattle.file_books.specs.declared.domains.Domains.{Domains}
use Rattle.file_books.specs.Domains.{HasValue}
use Rattle.rule_book.specs.Books.{Meaning, in_set, in_row}
use Rattle.file_books.specs.Relations.{Pairs, Forbidding, Unforbidden}

-- a relation that is asked with the lower option first, in whichever order the options come
abbrev pub either_order : Pairs → Pairs
either_order allows i a j b = cond (nat_lt i j) (allows i a j b) (allows j b i a)

-- these options and sets, with this relation between the values
abbrev pub file_meaning : Domains → Pairs → Meaning
file_meaning d allows = record {
  options = d.count;
  values = λ i v. member (side_of d.sets i) v;
  together = either_order allows;
}

-- the meaning m is read off the file: one option for each O record, with the values that it gives, and two values go
-- together unless a record forbids them
pub record ReadOff (Forbids : Forbidding) (file : List ℕ) (m : Meaning) : Type 0 where
  pub options : m.options ≡ count_before file o_letter (whole_records file)
  pub sets : (i v : ℕ) → Decides (in_set m i v) (HasValue file i v)
  pub rows : (i a j b : ℕ) → i < j
      → Decides (in_row m i a j b) (HasValue file i a × (HasValue file j b × Unforbidden Forbids file i a j b))

-- one option with the single value 0, and no rules
pub record Single (m : Meaning) : Type 0 where
  pub options : m.options ≡ 1
  pub sets : (i v : ℕ) → in_set m i v ≡ (i == 0 && v == 0)
  pub rows : (i a j b : ℕ) → in_row m i a j b ≡ false
