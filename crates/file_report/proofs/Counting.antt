-- One record more in the counts of the records so far. Assumes nothing.
use Rattle.std.proofs.Common.{◌≡◌, ℕ, ◌+◌, Bool, true, false, eqb, List, sym, ap, ◌∙◌, subst, ⊎_elim, arith, eqb-true}
use borrow.Author.Tests.{eqb-false}
use Rattle.std.proofs.lemmas.Bool.{cases_Bool}
use Rattle.record_file.specs.Layout.{byte, count_before, o_letter, r_letter, l_letter, p_letter}
use Rattle.record_file.specs.Rules.{HasUnknownLetter}
use Rattle.record_file.proofs.Counting.{count_before_none, count_before_in, count_before_out}
use Rattle.file_report.specs.declared.counts.Counts.{Counts}
use Rattle.file_report.specs.Tallies.{CountsBefore}

abbrev one_if : Bool → ℕ → ℕ
one_if true n = n + 1
one_if false n = n

-- the counts with a record of this letter
abbrev pub with_letter : ℕ → Counts → Counts
with_letter b c = record {
  domains = one_if (eqb b o_letter) c.domains;
  rows = one_if (eqb b r_letter) c.rows;
  inequalities = one_if (eqb b l_letter) c.inequalities;
  prices = one_if (eqb b p_letter) c.prices;
}

module _ (file : List ℕ) where
  pub none_yet :
      (c : Counts) → (c.domains ≡ 0) × ((c.rows ≡ 0) × ((c.inequalities ≡ 0) × (c.prices ≡ 0))) → CountsBefore file 0 c
  none_yet c e = record {
    domains = e.0 ∙ sym (count_before_none file o_letter);
    rows = e.1.0 ∙ sym (count_before_none file r_letter);
    inequalities = e.1.1.0 ∙ sym (count_before_none file l_letter);
    prices = e.1.1.1 ∙ sym (count_before_none file p_letter);
  }

  module _ (k : ℕ) where
    count_more :
        (letter n : ℕ) →
        n ≡ count_before file letter k →
        one_if (eqb (byte file k 0) letter) n ≡ count_before file letter (k + 1)
    count_more letter n e =
        ⊎_elim
        (λ t. ap (λ b. one_if b n) t ∙ omega (arith, e, count_before_in file letter k (eqb-true (byte file k 0) letter t)))
        (λ f. ap (λ b. one_if b n) f ∙ omega (arith, e, count_before_out file letter k (eqb-false (byte file k 0) letter f)))
        (cases_Bool (eqb (byte file k 0) letter))

    pub one_more :
        (b : ℕ) {c d : Counts} →
        byte file k 0 ≡ b →
        d ≡ with_letter b c →
        CountsBefore file k c →
        CountsBefore file (k + 1) d
    one_more b {c} has is old =
        let Stands : Counts → Type 0 = CountsBefore file (k + 1) in
        subst Stands (sym is) (subst (λ b. Stands (with_letter b c)) has record {
          domains = count_more o_letter c.domains old.domains;
          rows = count_more r_letter c.rows old.rows;
          inequalities = count_more l_letter c.inequalities old.inequalities;
          prices = count_more p_letter c.prices old.prices;
        })

    not-counted :
        (letter n : ℕ) →
        (byte file k 0 ≡ letter → ⊥) →
        n ≡ count_before file letter k →
        n ≡ count_before file letter (k + 1)
    not-counted letter n other e = e ∙ sym (count_before_out file letter k other)

    pub none_more :
        {c d : Counts} → HasUnknownLetter file k → d ≡ c → CountsBefore file k c → CountsBefore file (k + 1) d
    none_more {c} other is old = subst (CountsBefore file (k + 1)) (sym is) record {
      domains = not-counted o_letter c.domains other.no_O old.domains;
      rows = not-counted r_letter c.rows other.no_R old.rows;
      inequalities = not-counted l_letter c.inequalities other.no_L old.inequalities;
      prices = not-counted p_letter c.prices other.no_P old.prices;
    }
