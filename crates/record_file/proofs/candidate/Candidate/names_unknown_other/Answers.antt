use Rattle.std.proofs.Common.{MatchOption, subst, inl, inr, ⊎_elim, arith, rules, le-leb, leb-true}
use Rattle.record_file.specs.Layout.{KnownOption, Gives}
use Rattle.record_file.proofs.OptionRecords.{decides_absent, found_some}
use Rattle.record_file.proofs.candidate.Candidate.names_unknown_other.Goals as goal

pub returns-then-is_none : goal.returns-then-is_none
returns-then-is_none c =
    let r = c.args.self.now.record in
    let given = subst (λ o. MatchOption c.values_of.result (KnownOption r.file.now r.number o → ⊥) (Gives r.file.now r.number o)) c.byte-other.ensures c.values_of.ensures in
    (λ none. (search rules, inl ((decides_absent _ _ c.is_none.ensures given).0 none)), λ _. c.if-is_none.true)

pub returns-else-is_none : goal.returns-else-is_none
returns-else-is_none c =
    let r = c.args.self.now.record in
    let known = subst (KnownOption r.file.now r.number) c.byte-other.ensures (found_some _ _ _ c.is_none.ensures c.if-is_none.false c.values_of.ensures) in (
      λ le. (search rules, inr (omega (arith, leb-true _ _ le, c.byte-other.ensures, c.byte.ensures))),
      λ unknown. ⊎_elim (λ none. absurd (none known)) (λ le. le-leb _ _ (omega (arith, c.byte-other.ensures, c.byte.ensures))) unknown.1,
    )
