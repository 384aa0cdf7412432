-- The rule that a number stands for. Assumes nothing.
use Rattle.std.specs.Prelude.{◌≡◌, ℕ, List, ◌++◌, Result, MatchResult, codes, decimal}
use Rattle.record_file.specs.declared.fault.Rule.{Rule}
use Rattle.record_file.specs.declared.fault.UnknownNumber.{UnknownNumber}
use Rattle.record_file.specs.Faults.{number_of}

-- the rule with this number, or else the number, which no rule has
abbrev pub Numbered : ℕ → Result Rule UnknownNumber → Type 0
Numbered n r = MatchResult r (λ rule. number_of rule ≡ n) (λ e. (e.0 ≡ n) × ((rule : Rule) → number_of rule ≡ n → ⊥))

-- as in: no rule has the number 12
abbrev pub unknown_number_text : ℕ → List ℕ
unknown_number_text n = codes "no rule has the number " ++ decimal n
