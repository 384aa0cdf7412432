-- The sixteen bytes that a record is written as. Assumes nothing.
use Rattle.std.specs.Prelude.{ℕ, List, [], ◌∷◌, ◌++◌, replicate}
use Rattle.std.specs.Int.{w16, w32, to_le_bytes, cast_unsigned}
use Rattle.case_records.specs.declared.record.Record.{Record}
use Rattle.case_records.specs.declared.record.Record.TheVariants.{Domain, Row, Inequality, Price, Odd}

-- the letter and the next three bytes
abbrev pub head : ℕ → ℕ → ℕ → ℕ → List ℕ
head letter a b c = letter ∷ a ∷ b ∷ c ∷ []

abbrev pub zeros : ℕ → List ℕ
zeros n = replicate n 0

abbrev pub written : Record → List ℕ
written (Domain number count name) = head 79 number count 0 ++ name
written (Row i a j mask) = head 82 i a j ++ to_le_bytes w32 mask ++ zeros 8
written (Inequality i j p q c) =
    head 76 i 0 j
    ++ to_le_bytes w16 (cast_unsigned w16 p)
    ++ to_le_bytes w16 (cast_unsigned w16 q)
    ++ to_le_bytes w32 (cast_unsigned w32 c)
    ++ zeros 4
written (Price option value price) = head 80 option value 0 ++ to_le_bytes w32 price ++ zeros 8
written (Odd letter last) = letter ∷ zeros 14 ++ last ∷ []
