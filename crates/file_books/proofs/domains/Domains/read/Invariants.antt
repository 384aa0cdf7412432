use Rattle.std.proofs.Common.{◌≡◌, ℕ, Decides}
use Rattle.value_set.specs.Blocks.{side_of}
use Rattle.value_set.specs.Members.{member}
use Rattle.record_file.specs.Layout.{count_before, o_letter, SomeBefore}
use Rattle.file_books.proofs.GivenValues.{GivesValue}
use Rattle.file_books.proofs.domains.Domains.read.Given as goal

abbrev pub invariant-loop-number : goal.invariant-loop-number
invariant-loop-number l =
    (l.count ≡ count_before l.file o_letter l.number)
    × ((i v : ℕ) → Decides (member (side_of l.sets i) v) (SomeBefore l.number (GivesValue l.file i v)))
