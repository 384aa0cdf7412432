use Rattle.std.proofs.Common.{◌≡◌, ℕ, not, ◌&&◌}
use Rattle.value_set.specs.Members.{member, Within}
use Rattle.file_books.specs.Files.{either_order}
use Rattle.file_books.proofs.file_book.FileBook.partners.Given as goal

-- of the values that are passed, those that go together are in the row
abbrev pub invariant-loop-partner : goal.invariant-loop-partner
invariant-loop-partner g l =
    (goal.iterator-loop-partner g).can_next l.partner-iterator
    × ((goal.iterator-loop-partner g).is_finite l.partner-iterator
    × (Within l.partner-iterator.rest l.initial.partner-iterator.rest
    × ((b : ℕ) → member l.row b ≡ ((member l.initial.partner-iterator.rest b && not (member l.partner-iterator.rest b))
    && either_order (g.R.Relation.allows l.self.relation) l.option l.value l.other b))))
