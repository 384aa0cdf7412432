use Rattle.std.proofs.Common.{arith}
use Rattle.std.proofs.lemmas.Bool.Decides.{nat_tests}
use Rattle.value_set.proofs.Bits.{has_none}
use Rattle.file_books.proofs.file_book.FileBook.partners.Goals as goal

pub loop-partner-init : goal.loop-partner-init
loop-partner-init g c = (tt, (tt, ((λ v h. h), λ b. let none = has_none b in grind (arith, nat_tests))))
