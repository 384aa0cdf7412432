-- What the reader of a file is given of a record. Assumes nothing.
use Rattle.std.specs.Prelude.{◌≡◌, ℕ, ◌<◌, ◌≤◌, ◌⊎◌, List, Option, MatchOption}
use Rattle.record_file.specs.declared.record.Record.{Record}
use Rattle.record_file.specs.declared.record.Record.TheVariants.{Domain, Row, Inequality, Price}
use Rattle.record_file.specs.Layout.{whole_records, byte, part, HasLetter}
use Rattle.record_file.specs.Layout.{o_letter, r_letter, l_letter, p_letter}
use Rattle.record_file.specs.Rules.{HasUnknownLetter}

-- a record's kind by its letter, its numbers, and the bytes of its own as they stand in the file
abbrev pub Shows : List ℕ → ℕ → Record → Type 0
Shows file k (Domain option count name) =
    HasLetter file k o_letter
    × (option ≡ byte file k 1)
    × (count ≡ byte file k 2)
    × (name.now ≡ part file k 4 12)
Shows file k (Row option value other mask) =
    HasLetter file k r_letter
    × (option ≡ byte file k 1)
    × (value ≡ byte file k 2)
    × (other ≡ byte file k 3)
    × (mask.now ≡ part file k 4 4)
Shows file k (Inequality option other coefficients) =
    HasLetter file k l_letter
    × (option ≡ byte file k 1)
    × (other ≡ byte file k 3)
    × (coefficients.now ≡ part file k 4 8)
Shows file k (Price option value price) =
    HasLetter file k p_letter
    × (option ≡ byte file k 1)
    × (value ≡ byte file k 2)
    × (price.now ≡ part file k 4 4)

-- the file has no record k, or none with a letter that is known
abbrev pub Unreadable : List ℕ → ℕ → Type 0
Unreadable file k = (whole_records file ≤ k) ⊎ HasUnknownLetter file k

-- the record that is given, if the file has one of that number and its letter is known
abbrev pub Reads : List ℕ → ℕ → Option Record → Type 0
Reads file k r = MatchOption r (Unreadable file k) (λ x. (k < whole_records file) × Shows file k x)
