use Rattle.std.proofs.Common.{◌≡◌, length}
use Rattle.file_report.specs.Names.{trimmed}
use Rattle.file_report.proofs.names.without_padding.Given as goal

abbrev pub invariant-loop-name : goal.invariant-loop-name
invariant-loop-name l = trimmed l.name ≡ trimmed l.fn.name

abbrev pub decreases-loop-name : goal.decreases-loop-name
decreases-loop-name l = length l.name
