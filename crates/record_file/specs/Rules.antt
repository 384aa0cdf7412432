-- The rules of the record file, as what it is to break each of them. A rule on a record speaks of record k of the file,
-- and one that can be broken at several bytes of byte b. Assumes nothing.
use Rattle.std.specs.Prelude.{◌≡◌, ℕ, ◌%◌, ◌<◌, ◌≤◌, Bool, ◌&&◌, ◌||◌, T, ◌⊎◌}
use Rattle.std.specs.Prelude.{List, length, ◌==◌, ◌≢◌, nat_le}
use Rattle.record_file.specs.Layout.{record_length, longest_file, most_inequalities}
use Rattle.record_file.specs.Layout.{byte, word, HasLetter, o_letter, r_letter, l_letter, p_letter, count_before}
use Rattle.record_file.specs.Layout.{SomeBefore, Gives, KnownOption, KnownValue}
use Rattle.value_set.specs.Limits.{most_options, most_values}
use Rattle.value_set.specs.Members.{has}

-- 1: the file is too long
abbrev pub IsTooLong : List ℕ → Type 0
IsTooLong file = longest_file < length file

-- 2: the file ends within a record
abbrev pub HasPartialRecord : List ℕ → Type 0
HasPartialRecord file = length file % record_length ≡ 0 → ⊥

-- 3: the file has no record
abbrev pub HasNoRecord : List ℕ → Type 0
HasNoRecord file = length file ≡ 0

-- 4: the letter is none of the four
pub record HasUnknownLetter (file : List ℕ) (k : ℕ) : Type 0 where
  pub no_O : HasLetter file k o_letter → ⊥
  pub no_R : HasLetter file k r_letter → ⊥
  pub no_L : HasLetter file k l_letter → ⊥
  pub no_P : HasLetter file k p_letter → ⊥

-- some record before record k is no O record
abbrev pub FollowsAnotherKind : List ℕ → ℕ → Type 0
FollowsAnotherKind file k = SomeBefore k (λ j. HasLetter file j o_letter → ⊥)

-- 5: an O record follows another kind, or its number is not the count of O records before it, or there are twelve already
abbrev pub IsMisplacedOption : List ℕ → ℕ → Type 0
IsMisplacedOption file k =
    HasLetter file k o_letter
    × (FollowsAnotherKind file k
    ⊎ ((byte file k 1 ≢ count_before file o_letter k)
    ⊎ (most_options ≤ count_before file o_letter k)))

-- 6: an O record has no values, or too many
abbrev pub HasWrongCount : List ℕ → ℕ → Type 0
HasWrongCount file k = HasLetter file k o_letter × ((byte file k 2 ≡ 0) ⊎ (most_values < byte file k 2))

-- an R, L or P record: byte 1 names an option that is not known
abbrev pub HasUnknownFirst : List ℕ → ℕ → Type 0
HasUnknownFirst file k =
    (HasLetter file k r_letter ⊎ (HasLetter file k l_letter ⊎ HasLetter file k p_letter))
    × (KnownOption file k (byte file k 1) → ⊥)

-- an R or P record: byte 2 names a value that the option in byte 1 is not known to have
abbrev pub HasUnknownValue : List ℕ → ℕ → Type 0
HasUnknownValue file k =
    (HasLetter file k r_letter ⊎ HasLetter file k p_letter)
    × (KnownValue file k (byte file k 1) (byte file k 2) → ⊥)

-- an R or L record: byte 3 names an option that is not known, or that is not above the one in byte 1
abbrev pub HasUnknownSecond : List ℕ → ℕ → Type 0
HasUnknownSecond file k =
    (HasLetter file k r_letter ⊎ HasLetter file k l_letter)
    × ((KnownOption file k (byte file k 3) → ⊥) ⊎ (byte file k 3 ≤ byte file k 1))

-- 7, at byte b: what is named there is not known
abbrev pub HasUnknownAt : List ℕ → ℕ → ℕ → Type 0
HasUnknownAt file k b =
    ((b ≡ 1) × HasUnknownFirst file k) ⊎ (((b ≡ 2) × HasUnknownValue file k) ⊎ ((b ≡ 3) × HasUnknownSecond file k))

-- 8: the mask of an R record has a value that the option in byte 3 lacks
abbrev pub HasMaskBeyondValues : List ℕ → ℕ → Type 0
HasMaskBeyondValues file k =
    HasLetter file k r_letter
    × ((m : ℕ) × Gives file k (byte file k 3) m × ((v : ℕ) × (m ≤ v) × T (has (word file k 4) v)))

-- the bytes that must be zero, by the record's letter: the bytes that its kind does not name
abbrev pub unused : ℕ → ℕ → Bool
unused letter b =
    (letter == o_letter && b == 3)
    || (letter == r_letter && nat_le 8 b)
    || (letter == l_letter && (b == 2 || nat_le 12 b))
    || (letter == p_letter && (b == 3 || nat_le 8 b))

-- 9, at byte b: a byte of the record that must be zero is not
abbrev pub HasNonzeroAt : List ℕ → ℕ → ℕ → Type 0
HasNonzeroAt file k b = (b < record_length) × T (unused (byte file k 0) b) × (byte file k b ≢ 0)

-- record k is an R record for this value of an option and this other option
abbrev pub RowAt : List ℕ → ℕ → ℕ → ℕ → ℕ → Type 0
RowAt file k option value other =
    HasLetter file k r_letter × (byte file k 1 ≡ option) × (byte file k 2 ≡ value) × (byte file k 3 ≡ other)

-- record k is a P record for this value of an option
abbrev pub PriceAt : List ℕ → ℕ → ℕ → ℕ → Type 0
PriceAt file k option value =
    HasLetter file k p_letter × (byte file k 1 ≡ option) × (byte file k 2 ≡ value)

-- some record before record k is such an R record
abbrev pub RowBefore : List ℕ → ℕ → ℕ → ℕ → ℕ → Type 0
RowBefore file k option value other = SomeBefore k (λ j. RowAt file j option value other)

-- some record before record k is such a P record
abbrev pub PriceBefore : List ℕ → ℕ → ℕ → ℕ → Type 0
PriceBefore file k option value = SomeBefore k (λ j. PriceAt file j option value)

-- 10: an R record or a P record comes a second time
abbrev pub Repeated : List ℕ → ℕ → Type 0
Repeated file k =
    (HasLetter file k r_letter × RowBefore file k (byte file k 1) (byte file k 2) (byte file k 3))
    ⊎ (HasLetter file k p_letter × PriceBefore file k (byte file k 1) (byte file k 2))

-- 11: an L record comes where there are sixteen already
abbrev pub HasTooManyInequalities : List ℕ → ℕ → Type 0
HasTooManyInequalities file k =
    HasLetter file k l_letter × (most_inequalities ≤ count_before file l_letter k)
