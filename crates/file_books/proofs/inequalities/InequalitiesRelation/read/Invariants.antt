use Rattle.record_file.specs.Faults.{Sound}
use Rattle.file_books.specs.Inequalities.{RulesBefore}
use Rattle.file_books.proofs.inequalities.InequalitiesRelation.read.Given as goal

abbrev pub invariant-loop-number : goal.invariant-loop-number
invariant-loop-number l = Sound l.file → RulesBefore l.file l.number l.inequalities.rules
