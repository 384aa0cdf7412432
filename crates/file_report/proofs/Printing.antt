-- The text of a name, byte by byte, and that a terminal prints all of it. Assumes nothing.
use Rattle.std.proofs.Common.{◌≡◌, ℕ, ◌+◌, ◌/◌, ◌<◌, codes, List, [], ◌∷◌, ◌++◌, length, get_or, take, sym, ap, ◌∙◌, append_assoc, arith}
use Rattle.std.specs.List.{flat_map, AllByRecursion}
use Rattle.std.proofs.lemmas.List.{flat_map_more, take_more}
use Rattle.std.proofs.lemmas.Bool.{cond_both}
use Rattle.std.proofs.lemmas.Bool.Decides.{nat_tests}
use Rattle.file_report.specs.Names.{hex_digit, quoted, printed, shown_byte, shown_name, trimmed, Printable}

pub shown-more :
    (bs : List ℕ) (i : ℕ) {before after : List ℕ} →
    i < length bs →
    before ≡ flat_map shown_byte (take i bs) →
    after ≡ before ++ shown_byte (get_or bs i 0) →
    after ≡ flat_map shown_byte (take (i + 1) bs)
shown-more bs i inside old new =
    new
    ∙ ap (λ text. text ++ shown_byte (get_or bs i 0)) old
    ∙ flat_map_more shown_byte [] (take i bs) (get_or bs i 0)
    ∙ ap (flat_map shown_byte) (sym (take_more bs i 0 inside))

every_append : (xs ys : List ℕ) → AllByRecursion Printable xs → AllByRecursion Printable ys → AllByRecursion Printable (xs ++ ys)
every_append [] ys hx hy = hy
every_append (x ∷ xs) ys hx hy = (hx.0, every_append xs ys hx.1 hy)

hex_printable : (n : ℕ) → Printable (hex_digit n)
hex_printable n = grind (arith, nat_tests)

byte_printable : (b : ℕ) → AllByRecursion Printable (shown_byte b)
byte_printable b =
    cond_both (quoted b) _ _ (AllByRecursion Printable) (λ e. ((omega arith, omega arith), (grind (arith, nat_tests), tt)))
    (λ _. cond_both (printed b) _ _ (AllByRecursion Printable) (λ e. (grind (arith, nat_tests), tt))
    (λ _. ((omega arith, omega arith), ((omega arith, omega arith), (hex_printable (b / 16), (hex_printable b, tt))))))

joined_printable : (bs : List ℕ) → AllByRecursion Printable (flat_map shown_byte bs)
joined_printable [] = tt
joined_printable (b ∷ bs) = every_append (shown_byte b) (flat_map shown_byte bs) (byte_printable b) (joined_printable bs)

pub name_printable : (name : List ℕ) → AllByRecursion Printable (shown_name name)
name_printable name = joined_printable (trimmed name)

-- the pieces of the line on a file's counts
pub counts_joined :
    (n d r l p : List ℕ) →
    codes "records: " ++ (n ++ (codes " in all, " ++ (d ++ (codes " of O, " ++ (r ++ (codes " of R, " ++ (l ++ (codes " of L, " ++ (p ++ codes " of P")))))))))
    ≡ codes "records: " ++ n ++ codes " in all, " ++ d ++ codes " of O, " ++ r ++ codes " of R, " ++ l ++ codes " of L, " ++ p ++ codes " of P"
counts_joined n d r l p = simp append_assoc
