-- The pairs of values that L records forbid, and the rules that are kept of them. Assumes nothing.
use Rattle.std.specs.Prelude.{◌≡◌, ℕ, ◌+◌, ◌*◌, Bool, not, ◌&&◌, List}
use Rattle.std.specs.Prelude.{ℤ, pos, ◌+ℤ◌, ◌*ℤ◌, ◌<ℤ◌, Some, Option, MatchOption}
use Rattle.std.specs.Prelude.{Decides, ◌==◌, int_lt, is_none, flat_map, position, count_by, slice_set, option_to_list}
use Rattle.std.specs.List.{list_all}
use Rattle.std.specs.Int.{w16, w32}
use Rattle.std.proofs.Common.{to_z}
use Rattle.record_file.specs.Layout.{byte, word, most_inequalities, HasLetter, l_letter, count_before, SomeBefore}
use Rattle.file_books.specs.declared.inequalities.Inequality.{Inequality}
use Rattle.file_books.specs.Relations.{Pairs, Forbidding}

-- the signed number that two bytes of record k hold, from byte b on, the lowest first
abbrev pub signed_pair : List ℕ → ℕ → ℕ → ℤ
signed_pair file k b = to_z w16 (byte file k b + byte file k (b + 1) * 256)

-- p·x + q·y
abbrev pub combined : ℤ → ℤ → ℕ → ℕ → ℤ
combined p q x y = (p *ℤ pos x) +ℤ (q *ℤ pos y)

-- record k is an L record for the options i and j
abbrev pub InequalityAt : List ℕ → ℕ → ℕ → ℕ → Type 0
InequalityAt file k i j = HasLetter file k l_letter × (byte file k 1 ≡ i) × (byte file k 3 ≡ j)

-- record k is an L record for the options i and j, and its p·x + q·y is less than its c
abbrev pub InequalityForbids : Forbidding
InequalityForbids file k i x j y =
    InequalityAt file k i j
    × (combined (signed_pair file k 4) (signed_pair file k 6) x y <ℤ to_z w32 (word file k 8))

-- whether the rule is on these options, and these values break it
abbrev pub broken : Inequality → ℕ → ℕ → ℕ → ℕ → Bool
broken r i x j y = (r.option == i && r.other == j) && int_lt (combined r.p r.q x y) r.c

-- whether these values keep every rule of the list
abbrev pub keeps_all : List (Option Inequality) → Pairs
keeps_all rules i x j y = list_all (λ r. not (broken r i x j y)) (flat_map option_to_list rules)

-- record k is an L record, and this is its rule
pub record RuleOf (file : List ℕ) (k : ℕ) (r : Inequality) : Type 0 where
  pub letter : HasLetter file k l_letter
  pub option : r.option ≡ byte file k 1
  pub other : r.other ≡ byte file k 3
  pub p : r.p ≡ signed_pair file k 4
  pub q : r.q ≡ signed_pair file k 6
  pub c : r.c ≡ to_z w32 (word file k 8)

-- the list with the rule at its first free place, if it has one
abbrev pub Adds : List (Option Inequality) → Inequality → List (Option Inequality) → Type 0
Adds before r after =
    MatchOption (position is_none before) (after ≡ before) (λ t. after ≡ slice_set before t (Some r))

-- the rules of the L records before record k, which leave the other places of 16 free
pub record RulesBefore (file : List ℕ) (k : ℕ) (rules : List (Option Inequality)) : Type 0 where
  pub free : count_before file l_letter k + count_by is_none rules ≡ most_inequalities
  pub broken : (i x j y : ℕ) → Decides (not (keeps_all rules i x j y)) (SomeBefore k (λ l. InequalityForbids file l i x j y))
