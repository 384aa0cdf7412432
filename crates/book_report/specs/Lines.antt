-- The bytes of the lines that are printed about a book. Assumes nothing.
use Rattle.std.specs.Prelude.{ℕ, List, ◌++◌, Some, None, codes, decimal, Option}
use Rattle.book_report.specs.declared.cheapest.Cheapest.{Cheapest}

-- as in: pair 0 1: 11 of 16
abbrev pub pair_text : ℕ → ℕ → ℕ → ℕ → List ℕ
pair_text option other together all =
    codes "pair "
    ++ decimal option
    ++ codes " "
    ++ decimal other
    ++ codes ": "
    ++ decimal together
    ++ codes " of "
    ++ decimal all

-- as in: value 3 at 1
abbrev pub value_text : ℕ → ℕ → List ℕ
value_text value price = codes "value " ++ decimal value ++ codes " at " ++ decimal price

-- as in: cheapest of option 0: value 3 at 1
abbrev pub found_text : ℕ → ℕ → ℕ → List ℕ
found_text option value price =
    codes "cheapest of option " ++ decimal option ++ codes ": value " ++ decimal value ++ codes " at " ++ decimal price

-- as in: cheapest of option 0: none
abbrev pub none_text : ℕ → List ℕ
none_text option = codes "cheapest of option " ++ decimal option ++ codes ": none"

-- the line on the cheapest value of an option, or on an option without values
abbrev pub cheapest_text : ℕ → Option Cheapest → List ℕ
cheapest_text option None = none_text option
cheapest_text option (Some c) = found_text option c.value c.price
