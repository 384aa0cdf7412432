use Rattle.std.proofs.Common.{leb, refl, ap, subst, arith, rules}
use Rattle.std.proofs.lemmas.Bool.Decides.{Decides-at}
use Rattle.record_file.specs.Layout.{byte, Gives, KnownOption}
use Rattle.record_file.proofs.OptionRecords.{decides_beside, decides_unknown_value}
use Rattle.record_file.proofs.candidate.Candidate.names_unknown_value.Goals as goal

pub returns-in-None : goal.returns-in-None
returns-in-None c =
    let r = c.args.self.now.record in
    let none = subst (λ o. KnownOption r.file.now r.number o → ⊥) c.byte.ensures c.in-None.ensures in
    (λ _. (search rules, λ known. none (known.0, known.1)), λ _. refl)

pub returns-in-Some : goal.returns-in-Some
returns-in-Some c =
    let self = c.args.self.now in
    let count = c.in-Some.count in
    let given = subst (λ o. Gives self.record.file.now self.record.number o count) c.byte.ensures c.in-Some.ensures in
    decides_beside _ (search rules)
    (Decides-at _ (leb count (byte self.record.file.now self.record.number 2)) (ap (leb count) c.byte-in-Some.ensures)
    (decides_unknown_value (omega (arith, self.record.there)) self.sound _ _ count given))
