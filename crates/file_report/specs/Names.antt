-- How a name is shown. Assumes nothing.
use Rattle.std.specs.Prelude.{ℕ, ◌-◌, ◌/◌, ◌%◌, ◌≤◌, Bool, false, cond, ◌&&◌, ◌||◌, List}
use Rattle.std.specs.Prelude.{[], ◌∷◌, ◌++◌, length, take, codes, ◌==◌, nat_eq, nat_le}
use Rattle.std.specs.List.{flat_map, suffix_len}
use Rattle.std.specs.Fmt.{digit_glyph}

-- a name without the zeros at its end
abbrev pub trimmed : List ℕ → List ℕ
trimmed name = take (length name - suffix_len (λ b. nat_eq b 0) name) name

-- the last hexadecimal digit of a number, in lower case
abbrev pub hex_digit : ℕ → ℕ
hex_digit n = digit_glyph false (n % 16)

-- the double quote and the backslash, which stand behind a backslash
abbrev pub quoted : ℕ → Bool
quoted b = b == 34 || b == 92

-- the bytes that a terminal prints, from the space to the tilde
abbrev pub printed : ℕ → Bool
printed b = nat_le 32 b && nat_le b 126

-- what stands for one byte of a name
abbrev pub shown_byte : ℕ → List ℕ
shown_byte b =
    cond (quoted b) (codes "\\" ++ (b ∷ []))
    (cond (printed b) (b ∷ []) (codes "\\x" ++ (hex_digit (b / 16) ∷ hex_digit b ∷ [])))

-- the text of a name
abbrev pub shown_name : List ℕ → List ℕ
shown_name name = flat_map shown_byte (trimmed name)

-- a byte that a terminal prints
abbrev pub Printable : ℕ → Type 0
Printable b = (32 ≤ b) × (b ≤ 126)
