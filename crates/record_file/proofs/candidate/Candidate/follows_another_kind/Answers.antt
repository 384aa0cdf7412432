use Rattle.std.proofs.Common.{ltb, ◌∙◌, ap, arith}
use Rattle.std.proofs.lemmas.Bool.Decides.{Decides-at}
use Rattle.record_file.proofs.OptionRecords.{decides_follows}
use Rattle.record_file.proofs.candidate.Candidate.follows_another_kind.Goals as goal

pub returns : goal.returns
returns c =
    let self = c.args.self.now in
    Decides-at _ _ (ap (λ n. ltb n self.record.number) (c.options.ensures ∙ self.options))
    (decides_follows (omega (arith, self.record.there)) self.sound)
