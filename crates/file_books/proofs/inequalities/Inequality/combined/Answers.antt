use Rattle.std.proofs.Common.{◌≡◌, pos, ◌+ℤ◌, ◌*ℤ◌, ap, ◌∙◌, ap₂, arith, w16, w64, SFits, to_z, of_z, rules}
use Rattle.std.proofs.lemmas.Int.{ints, to_z-of_z}
use Rattle.file_books.proofs.inequalities.Inequality.combined.Goals as goal

pub returns : goal.returns
returns c =
    let rule = c.args.self.now in
    let sum : to_z w64 (of_z w64 (to_z w64 (of_z w64 c.from.result) +ℤ to_z w64 (of_z w64 c.from-2.result))) ≡ (c.product.result +ℤ c.product-2.result) = omega (arith, ints) in
    let p : SFits w16 rule.p = search rules in
    let q : SFits w16 rule.q = search rules in
    let first = c.product.ensures ∙ ap (λ z. z *ℤ pos c.args.x) (to_z-of_z w16 rule.p p) in
    let second = c.product-2.ensures ∙ ap (λ z. z *ℤ pos c.args.y) (to_z-of_z w16 rule.q q) in
    sum ∙ ap₂ ◌+ℤ◌ first second
