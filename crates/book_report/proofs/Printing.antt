-- The pieces of a printed line. Assumes nothing.
use Rattle.std.proofs.Common.{◌≡◌, ℕ, List, ◌++◌, codes, append_assoc}

pub found_joined :
    (o v p : List ℕ) →
    codes "cheapest of option " ++ (o ++ (codes ": " ++ (codes "value " ++ v ++ codes " at " ++ p)))
    ≡ codes "cheapest of option " ++ o ++ codes ": value " ++ v ++ codes " at " ++ p
found_joined o v p = simp append_assoc
