use Rattle.std.proofs.Common.{MatchOption, subst, rules}
use Rattle.record_file.specs.Layout.{KnownOption, Gives}
use Rattle.record_file.proofs.OptionRecords.{decides_beside, decides_absent}
use Rattle.record_file.proofs.candidate.Candidate.names_unknown_option.Goals as goal

pub returns-in-R : goal.returns-in-R
returns-in-R c =
    let r = c.args.self.now.record in
    let given = subst (λ o. MatchOption c.values_of.result (KnownOption r.file.now r.number o → ⊥) (Gives r.file.now r.number o)) c.byte.ensures c.values_of.ensures in
    decides_beside _ (search rules) (decides_absent _ _ c.is_none.ensures given)
