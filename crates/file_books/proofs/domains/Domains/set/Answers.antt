use Rattle.std.proofs.Common.{◌^◌, ◌<◌, ⊎_elim, arith}
use Rattle.std.proofs.lemmas.Bool.{cases_lt}
use Rattle.std.proofs.lemmas.Bool.Decides.{nat_tests}
use Rattle.value_set.proofs.Bits.{has_none, has_above}
use Rattle.file_books.proofs.domains.Domains.set.Goals as goal

pub returns-else-option-self : goal.returns-else-option-self
returns-else-option-self c = λ v. let none = has_none v in grind (arith, nat_tests)

pub returns-then-option-self : goal.returns-then-option-self
returns-then-option-self c = λ v.
    let fits : c.side.result.mask < 2 ^ 32 = omega arith in
    let is = c.side.ensures.value in
    ⊎_elim
    (λ lt. grind (arith, nat_tests))
    (λ le. let none = has_above 32 c.side.result.mask v fits le in grind (arith, nat_tests))
    (cases_lt v 32)
