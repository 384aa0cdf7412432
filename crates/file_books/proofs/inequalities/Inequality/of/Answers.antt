use Rattle.std.proofs.Common.{◌≡◌, ℕ, ◌+◌, ◌*◌, ◌<◌, List, get_or, ap, ◌∙◌, subst, arith, w16, w32, SFits, to_z, rules}
use Rattle.std.proofs.lemmas.Int.{to_z-of_z}
use Rattle.record_file.specs.Layout.{byte, part, word}
use Rattle.record_file.specs.Reading.{Shows}
use Rattle.record_file.proofs.Parts.{part-byte}
use Rattle.file_books.proofs.inequalities.Inequality.of.Goals as goal

-- what two and four bytes of the coefficients hold, as bytes of the record
module _ (file : List ℕ) (k : ℕ) (bytes : List ℕ) (is : bytes ≡ part file k 4 8) where
  coefficient : (t : ℕ) → t < 8 → get_or bytes t 0 ≡ byte file k (4 + t)
  coefficient t lt = ap (λ b. get_or b t 0) is ∙ part-byte file k 4 8 t lt

  first_pair : get_or bytes 0 0 + get_or bytes 1 0 * 256 ≡ byte file k 4 + byte file k 5 * 256
  first_pair = omega (arith, coefficient 0 (omega arith), coefficient 1 (omega arith))

  second_pair : get_or bytes 2 0 + get_or bytes 3 0 * 256 ≡ byte file k 6 + byte file k 7 * 256
  second_pair = omega (arith, coefficient 2 (omega arith), coefficient 3 (omega arith))

  bound : (some : List ℕ) → ((t : ℕ) → t < 4 → get_or some t 0 ≡ get_or bytes (4 + t) 0)
      → get_or some 0 0 + get_or some 1 0 * 256 + get_or some 2 0 * 65536 + get_or some 3 0 * 16777216 ≡ word file k 8
  bound some read =
      let at = λ (t : ℕ) (lt : t < 4). read t lt ∙ coefficient (4 + t) (omega arith) in
      omega (arith, at 0 (omega arith), at 1 (omega arith), at 2 (omega arith), at 3 (omega arith))

pub returns-in-Inequality : goal.returns-in-Inequality
returns-in-Inequality c = λ file k shows.
    let shown = subst (Shows file k) c.in-Inequality.is shows in
    let bytes = c.in-Inequality.coefficients.now in
    let p : SFits w16 c.short_at.result = search rules in
    let q : SFits w16 c.short_at-in-Inequality.result = search rules in
    let limit : SFits w32 c.from_le_bytes.result = search rules in
    record {
      letter = shown.0;
      option = c.from.ensures ∙ shown.1;
      other = c.from-in-Inequality.ensures ∙ shown.2;
      p = to_z-of_z w16 _ p ∙ c.short_at.ensures ∙ ap (to_z w16) (first_pair file k bytes shown.3);
      q = to_z-of_z w16 _ q ∙ c.short_at-in-Inequality.ensures ∙ ap (to_z w16) (second_pair file k bytes shown.3);
      c = to_z-of_z w32 _ limit ∙ c.from_le_bytes.ensures ∙ ap (to_z w32) (bound file k bytes shown.3 _ c.bytes_of.ensures);
    }
