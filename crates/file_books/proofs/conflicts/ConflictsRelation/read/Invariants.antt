use Rattle.file_books.specs.Conflicts.{ConflictsBefore}
use Rattle.file_books.proofs.conflicts.ConflictsRelation.read.Given as goal

abbrev pub invariant-loop-number : goal.invariant-loop-number
invariant-loop-number l = ConflictsBefore l.file l.number l.conflicts
