use Rattle.std.proofs.Common.{refl, arith}
use Rattle.std.proofs.lemmas.Bool.Decides.{nat_tests}
use Rattle.value_set.proofs.Blocks.{no_block_empty}
use Rattle.file_books.proofs.domains.Domains.single.Goals as goal

pub returns : goal.returns
returns c = record {
  count = refl;
  sets = λ i v.
      let none = no_block_empty i v in
      let at = c.with_values.ensures i v in
      let zero = c.first.ensures v in
      grind (arith, nat_tests);
}
