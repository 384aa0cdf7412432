-- The bytes of the lines that are printed about a file. Assumes nothing.
use Rattle.std.specs.Prelude.{ℕ, ◌+◌, cond, List, ◌++◌, codes, decimal, ◌==◌}
use Rattle.record_file.specs.Faults.{number_of}
use Rattle.record_file.specs.declared.fault.Fault.{Fault}
use Rattle.file_report.specs.declared.counts.Counts.{Counts}
use Rattle.file_report.specs.Names.{shown_name}

-- one value, and else values
abbrev pub noun_of : ℕ → List ℕ
noun_of count = cond (count == 1) (codes "value") (codes "values")

-- a line on an option, of its number, its name as shown, its count of values and their noun
abbrev pub option_words : ℕ → List ℕ → ℕ → List ℕ → List ℕ
option_words option name count values =
    codes "option " ++ decimal option ++ codes " \"" ++ name ++ codes "\" " ++ decimal count ++ codes " " ++ values

-- as in: option 0 "X" 4 values
abbrev pub option_text : ℕ → List ℕ → ℕ → List ℕ
option_text option name count = option_words option (shown_name name) count (noun_of count)

-- how many records are counted
abbrev pub in_all : Counts → ℕ
in_all c = c.domains + c.rows + c.inequalities + c.prices

-- as in: records: 9 in all, 3 of O, 6 of R, 0 of L, 0 of P
abbrev pub counts_text : Counts → List ℕ
counts_text c =
    codes "records: "
    ++ decimal (in_all c)
    ++ codes " in all, "
    ++ decimal c.domains
    ++ codes " of O, "
    ++ decimal c.rows
    ++ codes " of R, "
    ++ decimal c.inequalities
    ++ codes " of L, "
    ++ decimal c.prices
    ++ codes " of P"

-- a line on a fault, of its rule's number, its record and its byte
abbrev pub refusal_words : ℕ → ℕ → ℕ → List ℕ
refusal_words rule place at = codes "refused " ++ decimal rule ++ codes " " ++ decimal place ++ codes " " ++ decimal at

-- as in: refused 7 3 1
abbrev pub refusal_text : Fault → List ℕ
refusal_text f = refusal_words (number_of f.rule) f.record f.byte
