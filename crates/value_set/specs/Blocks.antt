-- The sides of a block, the configurations that lie in it, and its size. Assumes nothing.
use Rattle.std.specs.Prelude.{◌≡◌, ℕ, zero, suc, ◌*◌, ◌<◌, ◌≤◌, true, List, length, replicate}
use Rattle.std.specs.Prelude.{slice_index, slice_index_or}
use Rattle.value_set.specs.declared.block.Block.{Block}
use Rattle.value_set.specs.declared.set.ValueSet.{ValueSet}
use Rattle.value_set.specs.Limits.{most_options}
use Rattle.value_set.specs.Members.{member, size}

-- the set without values
abbrev pub no_values : ValueSet
no_values = record { mask = 0 }

-- the block whose sides are all without values
abbrev pub no_block : Block
no_block = record { sides = replicate most_options no_values }

-- the side of option i in the block b, without values where b has no such side
abbrev pub side_of : Block → ℕ → ValueSet
side_of b i = slice_index_or b.sides i no_values

-- the configuration c has no more values than b has sides, and each is in the side of its option
abbrev pub LiesIn : Block → List ℕ → Type 0
LiesIn b c = (length c ≤ most_options) × ((i : ℕ) → i < length c → member (side_of b i) (slice_index c i) ≡ true)

-- the product of the numbers of values of the first n sides of the block b
unfoldable pub block_size : Block → ℕ → ℕ
block_size b zero = 1
block_size b (suc n) = block_size b n * size (side_of b n)
