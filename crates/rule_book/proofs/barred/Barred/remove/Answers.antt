use Rattle.std.proofs.Common.{◌≡◌, ℕ, ◌&&◌, ◌||◌, eqb, ltb, refl, ap, ◌∙◌}
use Rattle.value_set.specs.Limits.{most_values}
use Rattle.value_set.specs.Members.{member}
use Rattle.value_set.proofs.Bits.{has_none}
use Rattle.rule_book.proofs.Barring.{one_more_barred}
use Rattle.rule_book.proofs.barred.Barred.remove.Goals as goal

pub returns : goal.returns
returns g c =
    let book = c.args.self.now in
    let only : (v : ℕ) → member c.with-value.result v ≡ (eqb v c.args.value && ltb v most_values) =
    λ v. c.with-value.ensures v ∙ ap (λ t. t || (eqb v c.args.value && ltb v most_values)) (has_none v) in
    record {
      below = refl;
      loses = one_more_barred _ (g.met.B.Book.lawful book.below).few_options book.barred _ _ _ _ c.requires only c.with_values-self.ensures;
    }
