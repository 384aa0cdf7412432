use Rattle.std.proofs.Common.{◌+◌}
use Rattle.record_file.proofs.RuleOrder.{SoundBelow}
use Rattle.record_file.proofs.candidate.Candidate.check.Given as goal

-- the rules so far, which are numbered from 4, are not broken
abbrev pub invariant-loop-rule : goal.invariant-loop-rule
invariant-loop-rule l = SoundBelow l.self.record.file.now l.self.record.number (l.rule-index + 4)
