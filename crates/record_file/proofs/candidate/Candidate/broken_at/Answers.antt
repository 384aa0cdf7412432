use Rattle.record_file.proofs.RuleOrder.{finds_for}
use Rattle.record_file.proofs.candidate.Candidate.broken_at.Goals as goal

pub returns-in-UnknownReference : goal.returns-in-UnknownReference
returns-in-UnknownReference c nf = finds_for _ _ _ c.in-UnknownReference.is c.unknown_reference.ensures
