use Rattle.std.proofs.Common.{sym, refl, ◌∙◌, inl, inr, ⊎_elim, arith}
use Rattle.std.proofs.lemmas.Bool.Decides.{not_from_Decides}
use Rattle.record_file.proofs.OptionRecords.{all_options}
use Rattle.record_file.proofs.candidate.Candidate.misplaced_option.Goals as goal
use Rattle.record_file.proofs.candidate.Candidate.misplaced_option.Goals.{then-follows_another_kind-via-then-follows_another_kind, then-follows_another_kind-via-else-follows_another_kind+then-from-count, then-follows_another_kind-via-else-follows_another_kind+else-from-count+then-count-ge-OPTIONS}

pub returns-then-follows_another_kind : goal.returns-then-follows_another_kind
returns-then-follows_another_kind c =
    let self = c.args.self.now in
    let counted = all_options (omega (arith, self.record.there)) self.sound in
    let letter = sym c.letter.ensures ∙ c.if-letter-ne79.false in
    elim c.then-follows_another_kind.branch [
      | then-follows_another_kind-via-then-follows_another_kind w ↦
          (record { there = self.record.there; broken = (letter, inl (c.follows_another_kind.ensures.0 w.if-follows_another_kind.true)) }, refl)
      | then-follows_another_kind-via-else-follows_another_kind+then-from-count w ↦
          let alone = not_from_Decides _ c.follows_another_kind.ensures w.if-follows_another_kind.false in (
            record {
              there = self.record.there;
              broken = (letter, inr (inl (λ same. w.if-from-count.true (w.from.ensures ∙ w.byte.ensures ∙ same ∙ counted alone))));
            },
            refl,
          )
      | then-follows_another_kind-via-else-follows_another_kind+else-from-count+then-count-ge-OPTIONS w ↦
          let alone = not_from_Decides _ c.follows_another_kind.ensures w.if-follows_another_kind.false in
          (record { there = self.record.there; broken = (letter, inr (inr (omega (arith, counted alone, w.if-count-ge-OPTIONS.true)))) }, refl)
    ]

pub returns : goal.returns
returns c b broken =
    let self = c.args.self.now in
    let alone = not_from_Decides _ c.follows_another_kind.ensures c.if-follows_another_kind.false in
    let counted = all_options (omega (arith, self.record.there)) self.sound alone in
    let number = sym c.byte.ensures ∙ sym c.from.ensures ∙ c.if-from-count.false ∙ sym counted in
    ⊎_elim alone (⊎_elim (λ differs. differs number) (λ ge. omega (arith, counted))) broken.0.broken.1
