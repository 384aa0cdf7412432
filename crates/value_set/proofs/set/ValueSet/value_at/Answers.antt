use Rattle.std.proofs.Common.{◌≡◌, ℕ, Option, Some, None, refl, ◌∙◌}
use Rattle.std.proofs.lemmas.Iterator.Consumers.{nth_from_yields_List}
use Rattle.std.specs.Option.{option_map}
use Rattle.value_set.proofs.Steps.{values_road}
use Rattle.value_set.proofs.set.ValueSet.value_at.Goals as goal

itself : (r : Option ℕ) → r ≡ option_map (λ v. v) r
itself None = refl
itself (Some v) = refl

pub returns : goal.returns
returns c =
    let whole : c.values.result.rest ≡ c.args.self = c.values.ensures in
    itself c.nth.result ∙ rw whole at (nth_from_yields_List _ _ _ c.nth.ensures.ran (values_road c.values.result))
