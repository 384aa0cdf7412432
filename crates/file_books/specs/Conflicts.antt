-- The pairs of values that R records forbid, and the table that keeps them. Assumes nothing.
use Rattle.std.specs.Prelude.{◌≡◌, ℕ, ◌<◌, Bool, false, not, List, [], Decides, slice_index_or}
use Rattle.value_set.specs.Blocks.{side_of}
use Rattle.value_set.specs.Limits.{most_options, most_values}
use Rattle.value_set.specs.Members.{has, member}
use Rattle.value_set.specs.Places.{place}
use Rattle.value_set.specs.declared.block.Block.{Block}
use Rattle.record_file.specs.Layout.{word, SomeBefore}
use Rattle.record_file.specs.Rules.{RowAt}
use Rattle.file_books.specs.declared.conflicts.Conflicts.{Conflicts}
use Rattle.file_books.specs.Relations.{Pairs, Forbidding}

-- record k is an R record for value a of option i and the option j, and bit b of its mask is clear
abbrev pub RowForbids : Forbidding
RowForbids file k i a j b = RowAt file k i a j × (has (word file k 4) b ≡ false)

-- a block without sides, past the last place
abbrev pub no_sides : Block
no_sides = record { sides = [] }

-- whether value a of option i conflicts with value b of option j, by the table
abbrev pub conflict : Conflicts → ℕ → ℕ → ℕ → ℕ → Bool
conflict t i a j b = member (side_of (slice_index_or t.blocks (place i a) no_sides) j) b

abbrev pub no_conflict : Conflicts → Pairs
no_conflict t i a j b = not (conflict t i a j b)

-- within the limits, the table has the pairs that the records before record k forbid
abbrev pub ConflictsBefore : List ℕ → ℕ → Conflicts → Type 0
ConflictsBefore file k t =
    (i a j b : ℕ) → i < most_options → a < most_values → j < most_options → b < most_values
    → Decides (conflict t i a j b) (SomeBefore k (λ l. RowForbids file l i a j b))
