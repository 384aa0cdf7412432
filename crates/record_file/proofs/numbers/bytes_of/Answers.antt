use Rattle.std.proofs.Common.{◌≡◌, slice_index, ap, ◌∙◌, rules}
use Rattle.std.proofs.lemmas.List.{get_or-drop}
use Rattle.record_file.proofs.FilledArrays.{filled}
use Rattle.record_file.proofs.numbers.bytes_of.Goals as goal

pub returns : goal.returns
returns g c = λ k lt.
    let rest = c.rest_of-rest.result.now in
    filled _ _ (λ i y. y ≡ slice_index rest i) (λ i y q call. search rules) _ _ c.from_fn.ensures.items k 0 lt
    ∙ ap (λ bytes. slice_index bytes k) c.rest_of-rest.ensures ∙ get_or-drop c.args.at c.args.part.now k 0
