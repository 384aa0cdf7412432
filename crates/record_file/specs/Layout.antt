-- Where a record's numbers stand in the bytes of a file, and what the records before it give. Assumes nothing.
use Rattle.std.specs.Prelude.{◌≡◌, ℕ, zero, suc, ◌+◌, ◌*◌, ◌/◌, ◌<◌, cond, List, length, take}
use Rattle.std.specs.Prelude.{drop, ◌==◌, slice_index}

-- the limits of the format
abbrev pub record_length : ℕ
record_length = 16

abbrev pub longest_file : ℕ
longest_file = 40960

abbrev pub most_records : ℕ
most_records = longest_file / record_length

abbrev pub most_inequalities : ℕ
most_inequalities = 16

-- how many whole records the file has
abbrev pub whole_records : List ℕ → ℕ
whole_records file = length file / record_length

-- byte b of record k, records and bytes counted from 0
abbrev pub byte : List ℕ → ℕ → ℕ → ℕ
byte file k b = slice_index file (record_length * k + b)

-- n bytes of record k, from its byte b on
abbrev pub part : List ℕ → ℕ → ℕ → ℕ → List ℕ
part file k b n = take n (drop (record_length * k + b) file)

-- the number that four bytes of record k hold, from byte b on, the lowest first
abbrev pub word : List ℕ → ℕ → ℕ → ℕ
word file k b =
    byte file k b + byte file k (b + 1) * 256 + byte file k (b + 2) * 65536 + byte file k (b + 3) * 16777216

-- the number that the first four of these bytes hold, the lowest first
abbrev pub word_in : List ℕ → ℕ
word_in bytes = slice_index bytes 0 + slice_index bytes 1 * 256 + slice_index bytes 2 * 65536 + slice_index bytes 3 * 16777216

-- the letters by which the four kinds of record are told
abbrev pub o_letter : ℕ
o_letter = 79

abbrev pub r_letter : ℕ
r_letter = 82

abbrev pub l_letter : ℕ
l_letter = 76

abbrev pub p_letter : ℕ
p_letter = 80

-- record k begins with this letter
abbrev pub HasLetter : List ℕ → ℕ → ℕ → Type 0
HasLetter file k letter = byte file k 0 ≡ letter

-- how many of the records before record k begin with this letter
unfoldable pub count_before : List ℕ → ℕ → ℕ → ℕ
count_before file letter zero = 0
count_before file letter (suc k) = cond (byte file k 0 == letter) 1 0 + count_before file letter k

-- some record before record k is so
abbrev pub SomeBefore : ℕ → (ℕ → Type 0) → Type 0
SomeBefore k So = (j : ℕ) × (j < k) × So j

-- some O record before record k gives this option, with m values
abbrev pub Gives : List ℕ → ℕ → ℕ → ℕ → Type 0
Gives file k option m =
    SomeBefore k (λ j. HasLetter file j o_letter × (byte file j 1 ≡ option) × (byte file j 2 ≡ m))

-- an option that some O record before record k gives
abbrev pub KnownOption : List ℕ → ℕ → ℕ → Type 0
KnownOption file k option = (m : ℕ) × Gives file k option m

-- a value of an option that some O record before record k gives
abbrev pub KnownValue : List ℕ → ℕ → ℕ → ℕ → Type 0
KnownValue file k option value = (m : ℕ) × Gives file k option m × (value < m)
