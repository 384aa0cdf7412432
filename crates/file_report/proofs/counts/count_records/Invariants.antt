use Rattle.file_report.specs.Tallies.{CountsBefore}
use Rattle.file_report.proofs.counts.count_records.Given as goal

abbrev pub invariant-loop-number : goal.invariant-loop-number
invariant-loop-number l = CountsBefore l.file l.number l.counts
