-- What is kept of the records before record k, while none of them is at fault. Assumes nothing.
use Rattle.std.specs.Prelude.{◌≡◌, ℕ, zero, suc, Bool, false, ◌&&◌, ◌||◌, ◌==◌, if◌then◌else◌}
use Rattle.std.specs.Prelude.{List, [], nat_lt, slice_index, slice_index_or}
use Rattle.value_set.specs.Blocks.{no_values}
use Rattle.value_set.specs.declared.set.ValueSet.{ValueSet}
use Rattle.value_set.specs.Members.{member}
use Rattle.record_file.specs.declared.tally.Tally.{Tally}
use Rattle.record_file.specs.Layout.{byte, o_letter, r_letter, l_letter, p_letter, count_before}

-- how many values an option has, where those that records before record k give come first, in their order; 0 for others
abbrev pub values_before : List ℕ → ℕ → ℕ → ℕ
values_before file k option = if nat_lt option k && byte file option 0 == o_letter then byte file option 2 else 0

-- whether some record before record k passes a test
unfoldable pub some_before : ℕ → (ℕ → Bool) → Bool
some_before zero p = false
some_before (suc k) p = some_before k p || p k

-- whether record j is an R record for this value of an option and this other option
abbrev pub is_row : List ℕ → ℕ → ℕ → ℕ → ℕ → Bool
is_row file option value other j =
    byte file j 0 == r_letter && (byte file j 3 == other && (byte file j 1 == option && byte file j 2 == value))

-- whether record j is a P record for this value of an option
abbrev pub is_price : List ℕ → ℕ → ℕ → ℕ → Bool
is_price file option value j = byte file j 0 == p_letter && (byte file j 1 == option && byte file j 2 == value)

abbrev pub row_before : List ℕ → ℕ → ℕ → ℕ → ℕ → Bool
row_before file k option value other = some_before k (is_row file option value other)

abbrev pub price_before : List ℕ → ℕ → ℕ → ℕ → Bool
price_before file k option value = some_before k (is_price file option value)

-- whether the set of an option has a value
abbrev pub has_in : List ValueSet → ℕ → ℕ → Bool
has_in sets option value = member (slice_index_or sets option no_values) value

-- whether an R record for this value of an option and this other option is kept
abbrev pub row_marked : Tally → ℕ → ℕ → ℕ → Bool
row_marked t option value other = has_in (slice_index_or t.rows other []) option value

-- whether a P record for this value of an option is kept
abbrev pub price_marked : Tally → ℕ → ℕ → Bool
price_marked t option value = has_in t.prices option value

-- what the O, R and P records before record k give is kept, and the O and L records are counted
pub record TallyBefore (file : List ℕ) (k : ℕ) (t : Tally) : Type 0 where
  pub options : t.options ≡ count_before file o_letter k
  pub counts : (o : ℕ) → slice_index t.counts o ≡ values_before file k o
  pub rows : (o v p : ℕ) → row_marked t o v p ≡ row_before file k o v p
  pub prices : (o v : ℕ) → price_marked t o v ≡ price_before file k o v
  pub inequalities : t.inequalities ≡ count_before file l_letter k
