use Rattle.std.proofs.Common.{refl}
use Rattle.value_set.specs.Blocks.{no_block}
use Rattle.value_set.proofs.Blocks.{no_block_empty}
use Rattle.rule_book.proofs.Barring.{nothing_barred}
use Rattle.rule_book.proofs.barred.Barred.new.Goals as goal

pub returns : goal.returns
returns g c = record { below = refl; none = nothing_barred _ no_block no_block_empty }
