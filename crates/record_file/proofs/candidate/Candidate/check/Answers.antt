use Rattle.std.proofs.Common.{sym, subst}
use Rattle.record_file.specs.Faults.{FirstInRecord}
use Rattle.record_file.proofs.RuleOrder.{first_broken, sound_below_next}
use Rattle.record_file.proofs.candidate.Candidate.check.Goals as goal

pub returns-in-Some : goal.returns-in-Some
returns-in-Some c =
    let r = c.args.self.now.record in
    subst (FirstInRecord r.file.now r.number) (sym c.new.ensures)
    (first_broken r.file.now r.number c.loop-rule.rule-index _ c.loop-rule-test.true c.loop-rule.invariant c.in-Some.byte c.in-Some.ensures)

pub loop-rule-preserved : goal.loop-rule-preserved
loop-rule-preserved c =
    let r = c.args.self.now.record in
    sound_below_next r.file.now r.number c.loop-rule.rule-index _ c.loop-rule-test.true c.loop-rule.invariant c.in_default.ensures
