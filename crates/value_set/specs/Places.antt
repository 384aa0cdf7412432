-- The values of all options in one row, those of an option side by side. Assumes nothing.
use Rattle.std.specs.Prelude.{ℕ, ◌+◌, ◌*◌, ◌<◌}
use Rattle.value_set.specs.Limits.{most_options, most_values}

-- the place of a value of an option
abbrev pub place : ℕ → ℕ → ℕ
place option value = option * most_values + value

-- there can be no such value
abbrev pub Beyond : ℕ → ℕ → Type 0
Beyond option value = option < most_options → value < most_values → ⊥
