use Rattle.std.proofs.Common.{◌≡◌, ◌+◌, ◌*◌, false, not, ap}
use Rattle.value_set.specs.Blocks.{no_block, side_of}
use Rattle.value_set.specs.Limits.{most_values}
use Rattle.value_set.specs.Members.{member}
use Rattle.value_set.proofs.Bits.{has_none}
use Rattle.value_set.proofs.Blocks.{holds_throughout, no_block_empty}
use Rattle.file_books.specs.Conflicts.{no_sides}
use Rattle.file_books.proofs.conflicts.ConflictsRelation.all.Goals as goal

pub returns : goal.returns
returns c = λ i a j b. ap not (holds_throughout (λ block. member (side_of block j) b ≡ false) 384 no_block no_sides (i * most_values + a) (no_block_empty j b) (has_none b))
