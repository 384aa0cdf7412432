-- What is kept of the records so far, after one record more. Assumes nothing.
use Rattle.std.proofs.Common.{◌≡◌, ℕ, get_or, ◌+◌, Bool, false, ◌&&◌, ◌||◌, eqb, List, Decides, sym, ◌∙◌, arith}
use Rattle.std.proofs.lemmas.Bool.{and_left, ne_eqb, eq-eqb}
use Rattle.std.proofs.lemmas.Bool.Decides.{Decides-eqb, Decides-and, Decides-like, nat_tests}
use Rattle.record_file.specs.declared.tally.Tally.{Tally}
use Rattle.record_file.specs.Layout.{byte, HasLetter, o_letter, r_letter, l_letter, p_letter, count_before}
use Rattle.record_file.specs.Rules.{RowAt}
use Rattle.record_file.specs.Tallies.{values_before, is_row, is_price, row_before, price_before, row_marked, price_marked, TallyBefore}
use Rattle.record_file.proofs.Counting.{count_before_out}
use Rattle.record_file.proofs.GivenCounts.{values_kept}
use Rattle.record_file.proofs.Marking.{some_before_more}

module _ (file : List ℕ) (k : ℕ) where
  -- the test by which the row of a record is marked
  pub decides_row : (option value other : ℕ) → HasLetter file k r_letter → option ≡ byte file k 1 → value ≡ byte file k 2 → other ≡ byte file k 3
      → (o v p : ℕ) → Decides (eqb p other && (eqb o option && eqb v value)) (RowAt file k o v p)
  decides_row option value other letter is-o is-v is-p o v p =
      Decides-like _
      (λ (e3, (e1, e2)). (letter, sym (e1 ∙ is-o), sym (e2 ∙ is-v), sym (e3 ∙ is-p)))
      (λ at. (sym at.3 ∙ sym is-p, (sym at.1 ∙ sym is-o, sym at.2 ∙ sym is-v)))
      (Decides-and _ _ (Decides-eqb p other) (Decides-and _ _ (Decides-eqb o option) (Decides-eqb v value)))

  or_false : (a b : Bool) → b ≡ false → (a || b) ≡ a
  or_false a b none = grind (arith, nat_tests)

  module _ {t : Tally} (h : TallyBefore file k t) where
    -- a record of another kind changes nothing
    pub options_kept : (HasLetter file k o_letter → ⊥) → t.options ≡ count_before file o_letter (k + 1)
    options_kept other = h.options ∙ sym (count_before_out file o_letter k other)

    pub counts_kept : (HasLetter file k o_letter → ⊥) → (o : ℕ) → get_or t.counts o 0 ≡ values_before file (k + 1) o
    counts_kept other o = h.counts o ∙ sym (values_kept file k other o)

    pub rows_kept : (HasLetter file k r_letter → ⊥) → (o v p : ℕ) → row_marked t o v p ≡ row_before file (k + 1) o v p
    rows_kept other o v p =
        h.rows o v p
        ∙ sym (some_before_more k (is_row file o v p) ∙ or_false _ _ (and_left _ _ (ne_eqb (byte file k 0) r_letter other)))

    pub prices_kept : (HasLetter file k p_letter → ⊥) → (o v : ℕ) → price_marked t o v ≡ price_before file (k + 1) o v
    prices_kept other o v =
        h.prices o v
        ∙ sym (some_before_more k (is_price file o v) ∙ or_false _ _ (and_left _ _ (ne_eqb (byte file k 0) p_letter other)))

    pub inequalities_kept : (HasLetter file k l_letter → ⊥) → t.inequalities ≡ count_before file l_letter (k + 1)
    inequalities_kept other = h.inequalities ∙ sym (count_before_out file l_letter k other)

    -- an R record is kept
    pub row_added : (option value other : ℕ) → HasLetter file k r_letter → option ≡ byte file k 1 → value ≡ byte file k 2 → other ≡ byte file k 3
        → (o v p : ℕ) → (row_marked t o v p || (eqb p other && (eqb o option && eqb v value))) ≡ row_before file (k + 1) o v p
    row_added option value other letter is-o is-v is-p o v p =
        let before = h.rows o v p in
        let first = eq-eqb (byte file k 0) r_letter letter in
        let more = some_before_more k (is_row file o v p) in
        grind (arith, nat_tests)

    pub price_added : (option value : ℕ) → HasLetter file k p_letter → option ≡ byte file k 1 → value ≡ byte file k 2
        → (o v : ℕ) → (price_marked t o v || (eqb o option && eqb v value)) ≡ price_before file (k + 1) o v
    price_added option value letter is-o is-v o v =
        let before = h.prices o v in
        let first = eq-eqb (byte file k 0) p_letter letter in
        let more = some_before_more k (is_price file o v) in
        grind (arith, nat_tests)
