-- Relations between the values of two options, and how the records of a file make them. Assumes nothing.
use Rattle.std.specs.Prelude.{ℕ, ◌<◌, Bool, List, Decides}
use Rattle.value_set.specs.Limits.{most_options, most_values}
use Rattle.record_file.specs.Layout.{whole_records, SomeBefore}

-- whether value a of option i goes with value b of a higher option j
abbrev pub Pairs : Type 0
Pairs = (i a j b : ℕ) → Bool

-- record k of the file forbids value a of option i beside value b of a higher option j
abbrev pub Forbidding : Type 1
Forbidding = (file : List ℕ) (k i a j b : ℕ) → Type 0

-- no record of the file forbids value a of option i beside value b of option j
abbrev pub Unforbidden : Forbidding → List ℕ → ℕ → ℕ → ℕ → ℕ → Type 0
Unforbidden Forbids file i a j b = SomeBefore (whole_records file) (λ k. Forbids file k i a j b) → ⊥

-- within the limits, values go together unless a record of the file forbids them
abbrev pub AllowsBy : Forbidding → List ℕ → Pairs → Type 0
AllowsBy Forbids file allows =
    (i a j b : ℕ) → i < most_options → a < most_values → j < most_options → b < most_values
    → Decides (allows i a j b) (Unforbidden Forbids file i a j b)
