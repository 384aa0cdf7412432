use Rattle.std.proofs.Common.{T, sym, refl, ◌∙◌, subst, arith, rules}
use Rattle.std.proofs.lemmas.Bool.Decides.{not_from_Decides}
use Rattle.value_set.specs.Members.{has}
use Rattle.record_file.specs.Layout.{Gives}
use Rattle.record_file.proofs.Beyond.{value_beyond, none_beyond}
use Rattle.record_file.proofs.OptionRecords.{one_count}
use Rattle.record_file.proofs.candidate.Candidate.mask_beyond_values.Goals as goal

pub returns-then-is_within : goal.returns-then-is_within
returns-then-is_within c b broken =
    let self = c.args.self.now in
    let count = c.in_ok-count.count in
    let given = subst (λ o. Gives self.record.file.now self.record.number o count) c.byte.ensures c.in_ok-count.ensures in
    let other = broken.0.broken.1 in
    let same = one_count (omega (arith, self.record.there)) self.sound _ other.0 count other.1 given in
    let mask = c.from_mask-mask.ensures ∙ c.word.ensures in
    none_beyond count c.from_mask-mask.result _ c.first.ensures (c.is_within.ensures.0 c.if-is_within.true) other.2.0 (omega (arith, same, other.2.1))
    (subst (λ n. T (has n other.2.0)) (sym mask) other.2.2)

pub returns-else-is_within : goal.returns-else-is_within
returns-else-is_within c =
    let count = c.in_ok-count.count in
    let self = c.args.self.now in
    let given = subst (λ o. Gives self.record.file.now self.record.number o count) c.byte.ensures c.in_ok-count.ensures in
    let outside = not_from_Decides _ c.is_within.ensures c.if-is_within.false in
    let beyond = value_beyond count c.from_mask-mask.result _ (omega (arith, c.from_mask-mask.ensures, c.word.type_inv)) c.first.ensures outside in
    let mask = c.from_mask-mask.ensures ∙ c.word.ensures in (
      record {
        there = c.args.self.now.record.there;
        broken = (search rules, (count, given, (beyond.0, beyond.1, subst (λ m. T (has m beyond.0)) mask beyond.2)));
      },
      refl,
    )
