use Rattle.std.proofs.Common.{rules}
use Rattle.record_file.specs.Layout.{HasLetter, r_letter}
use Rattle.file_books.proofs.Conflicting.{conflicts_kept}
use Rattle.file_books.proofs.conflicts.ConflictsRelation.read.Goals as goal
use Rattle.file_books.proofs.conflicts.ConflictsRelation.read.Goals.{in-Some, in_default}

pub loop-number-preserved : goal.loop-number-preserved
loop-number-preserved c =
    let file = c.args.file.now in
    let k = c.loop-number.number in
    let before = c.loop-number.invariant in
    elim c.match-read.branch [
      | in-Some w ↦ rw w.conflicts-is (w.add.ensures file k w.in-Some.ensures.reads.1 before)
      | in_default w ↦
          let other : HasLetter file k r_letter → ⊥ = search rules in
          rw w.conflicts-is (conflicts_kept file k _ before other)
    ]
