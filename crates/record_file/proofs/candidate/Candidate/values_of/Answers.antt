use Rattle.std.proofs.Common.{sym, ◌∙◌, subst, arith}
use Rattle.record_file.specs.Layout.{Gives}
use Rattle.record_file.proofs.GivenCounts.{values_at, values_given}
use Rattle.record_file.proofs.OptionRecords.{given_at, gives_own}
use Rattle.record_file.proofs.SoundRecords.{some_values}
use Rattle.record_file.proofs.candidate.Candidate.values_of.Goals as goal

pub returns-in-0 : goal.returns-in-0
returns-in-0 c known =
    let self = c.args.self.now in
    let at = given_at (omega (arith, self.record.there)) self.sound _ _ known.1 in
    let values = values_at self.record.file.now self.record.number _ at.0 at.1 in
    omega (arith, c.count.ensures, self.counts c.args.option, values, some_values (omega (arith, self.record.there)) (self.sound _ at.0) at.1)

pub returns-in_default : goal.returns-in_default
returns-in_default c =
    let self = c.args.self.now in
    let count = c.count.ensures ∙ self.counts c.args.option in
    let given = values_given self.record.file.now self.record.number c.args.option (omega (arith, count)) in
    subst (Gives self.record.file.now self.record.number c.args.option)
    (sym (count ∙ values_at self.record.file.now self.record.number _ given.0 given.1))
    (gives_own (omega (arith, self.record.there)) self.sound c.args.option given.0 given.1)
