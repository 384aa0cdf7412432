use Rattle.std.proofs.Common.{◌≡◌, pos, ◌*ℤ◌, ◌∙◌, ap₂, sym, subst, arith, w32, SFits, to_z, of_z}
use Rattle.std.proofs.lemmas.Int.{ints, to_z-of_z}
use Rattle.file_books.proofs.inequalities.product.Goals as goal

pub returns : goal.returns
returns c =
    let first : to_z w32 (of_z w32 c.from.result) ≡ c.args.coefficient = omega (arith, ints) in
    let second : to_z w32 (of_z w32 c.from-2.result) ≡ pos c.args.value = omega (arith, ints) in
    let fits : SFits w32 (c.args.coefficient *ℤ pos c.args.value) = record { sfits = grind (arith, ints) } in
    let factors = ap₂ ◌*ℤ◌ first second in
    to_z-of_z w32 _ (subst (SFits w32) (sym factors) fits) ∙ factors
