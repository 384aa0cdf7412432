-- The options that the O records of a file give. Assumes nothing.
use Rattle.std.specs.Prelude.{◌≡◌, ℕ, ◌&&◌, List, nat_lt}
use Rattle.value_set.specs.Limits.{most_values}
use Rattle.value_set.specs.Members.{member}
use Rattle.value_set.specs.declared.set.ValueSet.{ValueSet}
use Rattle.record_file.specs.Layout.{whole_records, byte, HasLetter, o_letter, KnownValue}

-- value v of option i by the O records of the file
abbrev pub HasValue : List ℕ → ℕ → ℕ → Type 0
HasValue file i v = KnownValue file (whole_records file) i v

-- record k is an O record, which gives this option and these values, as far as a set can hold them
abbrev pub Given : List ℕ → ℕ → (ℕ × ValueSet) → Type 0
Given file k p =
    HasLetter file k o_letter
    × (p.0 ≡ byte file k 1)
    × ((v : ℕ) → member p.1 v ≡ (nat_lt v (byte file k 2) && nat_lt v most_values))
