use Rattle.std.proofs.Common.{ℕ, ◌<◌}
use Rattle.record_file.specs.Rules.{HasNonzeroAt}
use Rattle.record_file.proofs.candidate.Candidate.reserved_byte.Given as goal

-- no byte so far breaks the rule
abbrev pub invariant-loop-at : goal.invariant-loop-at
invariant-loop-at l = (a : ℕ) → a < l.at → HasNonzeroAt l.self.record.file.now l.self.record.number a → ⊥
