use Rattle.std.proofs.Common.{arith}
use Rattle.value_set.proofs.Sizes.{size-without}
use Rattle.value_set.proofs.set.ValueSet.split_least.Goals as goal

pub returns : goal.returns
returns c =
    let found = c.in_ok-value.ensures in
    let others = c.without.ensures in
    ((found.0, found.1, others), omega (arith, size-without _ _ _ found.0 found.1.there others))
