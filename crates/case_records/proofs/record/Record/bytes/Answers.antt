use Rattle.std.proofs.Common.{rules, ◌≡◌, ◌∙◌, sym, ap, arith, ℕ, List, [], ◌∷◌, ◌++◌, length, slice_index_or}
use Rattle.std.proofs.lemmas.Slice.Eq.{text_from_reads}
use Rattle.case_records.specs.Written.{written, head}
use Rattle.case_records.proofs.record.Record.bytes.Goals as goal

abbrev twelve_of : List ℕ → List ℕ
twelve_of s =
    let at : ℕ → ℕ = λ i. slice_index_or s i 0 in
    at 0 ∷ at 1 ∷ at 2 ∷ at 3 ∷ at 4 ∷ at 5 ∷ at 6 ∷ at 7 ∷ at 8 ∷ at 9 ∷ at 10 ∷ at 11 ∷ []

-- a name is its twelve bytes
twelve_bytes : (s : List ℕ) → length s ≡ 12 → s ≡ twelve_of s
twelve_bytes s e =
    text_from_reads s (twelve_of s) e (search rules)

pub returns-in-Domain : goal.returns-in-Domain
returns-in-Domain c =
    ap (λ s. head 79 c.in-Domain.number c.in-Domain.count 0 ++ s) (sym (twelve_bytes c.in-Domain.name (omega arith)))
    ∙ ap written (sym c.in-Domain.is)
