use Rattle.std.proofs.Output.{has_written_of_eq}
use Rattle.file_report.proofs.Printing.{counts_joined}
use Rattle.file_report.proofs.lines.CountsDisplay.fmt.Goals as goal

pub returns-clause-writes : goal.returns-clause-writes
returns-clause-writes g c = λ plain ok. has_written_of_eq _ _ _ _ _ (counts_joined _ _ _ _ _) (c.write.ensures.writes plain ok)
