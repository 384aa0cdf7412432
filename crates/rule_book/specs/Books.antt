-- What a rule book means, what it answers from its meaning, and the law that it keeps. Assumes nothing.
use Rattle.std.specs.Prelude.{◌≡◌, ℕ, ◌≤◌, Bool, not, ◌&&◌, ◌==◌, nat_lt}
use Rattle.value_set.specs.Limits.{most_options, most_values}
use Rattle.value_set.specs.Members.{member}
use Rattle.value_set.specs.declared.set.ValueSet.{ValueSet}

-- how many options there are; whether option i has the value v; whether value a of option i goes with value b of option j
pub record Meaning : Type 0 where
  pub options : ℕ
  pub values : ℕ → ℕ → Bool
  pub together : ℕ → ℕ → ℕ → ℕ → Bool

-- whether v is in the set of option i: there is such an option, and v is one of its values
abbrev pub in_set : Meaning → ℕ → ℕ → Bool
in_set m i v = nat_lt i m.options && (nat_lt v most_values && m.values i v)

-- whether b is in the row of value a of option i toward option j: the options differ, both values are in their sets,
-- and they go together
abbrev pub in_row : Meaning → ℕ → ℕ → ℕ → ℕ → Bool
in_row m i a j b = not (i == j) && (in_set m i a && (in_set m j b && m.together i a j b))

-- the law of a book: it has at least one option and not too many, and its rows agree both ways
pub record Lawful (m : Meaning) : Type 0 where
  pub some_option : 1 ≤ m.options
  pub few_options : m.options ≤ most_options
  pub agree : (i a j b : ℕ) → in_row m i a j b ≡ in_row m j b i a

-- the set s holds the values of option i, and none where there is no such option
abbrev pub SetOf : Meaning → ℕ → ValueSet → Type 0
SetOf m i s = (v : ℕ) → member s v ≡ in_set m i v

-- the set s holds the row of value a of option i toward option j
abbrev pub RowOf : Meaning → ℕ → ℕ → ℕ → ValueSet → Type 0
RowOf m i a j s = (b : ℕ) → member s b ≡ in_row m i a j b

-- two meanings from which every question is answered alike
pub record SameAnswers (m n : Meaning) : Type 0 where
  pub options : m.options ≡ n.options
  pub sets : (i v : ℕ) → in_set m i v ≡ in_set n i v
  pub rows : (i a j b : ℕ) → in_row m i a j b ≡ in_row n i a j b
