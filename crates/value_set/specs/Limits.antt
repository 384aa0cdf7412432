-- The limits of every rule book. Assumes nothing.
use Rattle.std.specs.Prelude.{ℕ}

-- options are numbered from 0 to 11
abbrev pub most_options : ℕ
most_options = 12

-- values are numbered from 0 to 31
abbrev pub most_values : ℕ
most_values = 32
