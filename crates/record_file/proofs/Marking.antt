-- Whether some record before record k is an R or a P record for a value, by what is kept of those records. Assumes nothing.
use Rattle.std.proofs.Common.{◌≡◌, ℕ, zero, suc, ◌+◌, ◌≤◌, Bool, false, ◌||◌, length, List, [], Decides, sym, refl, ap, ◌∙◌, subst, inl, inr, ⊎_elim, add-one, arith}
use Rattle.std.proofs.lemmas.Bool.Decides.{Decides-eqb, Decides-and, Decides-at, Decides-like}
use Rattle.std.proofs.lemmas.List.{get_or_past}
use Rattle.value_set.specs.Blocks.{no_values}
use Rattle.value_set.specs.declared.set.ValueSet.{ValueSet}
use Rattle.value_set.specs.Members.{member}
use Rattle.value_set.proofs.Bits.{has_none}
use Rattle.record_file.specs.Layout.{byte, HasLetter, r_letter, p_letter, SomeBefore}
use Rattle.record_file.specs.Rules.{RowBefore, PriceBefore, Repeated}
use Rattle.record_file.specs.Tallies.{some_before, row_before, price_before, has_in, row_marked, price_marked}
use Rattle.record_file.specs.declared.tally.Tally.{Tally}
use Rattle.record_file.proofs.Counting.{decides_none, decides_one_more}

pub some_before_none : (p : ℕ → Bool) → some_before 0 p ≡ false
unfolding some_before
some_before_none p = refl

pub some_before_more : (k : ℕ) (p : ℕ → Bool) → some_before (k + 1) p ≡ (some_before k p || p k)
unfolding some_before
some_before_more k p = rw add-one refl

decides_some_before : (p : ℕ → Bool) (So : ℕ → Type 0) → ((j : ℕ) → Decides (p j) (So j)) → (k : ℕ) → Decides (some_before k p) (SomeBefore k So)
unfolding some_before
decides_some_before p So each zero = decides_none So _ refl
decides_some_before p So each (suc k) =
    let next : k + 1 ≡ suc k = omega arith in
    subst (λ n. Decides (some_before k p || p k) (SomeBefore n So)) next
    (decides_one_more So k _ _ (decides_some_before p So each k) (each k))

module _ (file : List ℕ) (k : ℕ) where
  decides_row_before : (o v p : ℕ) → Decides (row_before file k o v p) (RowBefore file k o v p)
  decides_row_before o v p =
      decides_some_before _ _
      (λ j. Decides-like _
      (λ (letter, (other, (option, value))). (letter, option, value, other))
      (λ at. (at.0, (at.3, (at.1, at.2))))
      (Decides-and _ _ (Decides-eqb (byte file j 0) r_letter) (Decides-and _ _ (Decides-eqb (byte file j 3) p) (Decides-and _ _ (Decides-eqb (byte file j 1) o) (Decides-eqb (byte file j 2) v)))))
      k

  decides_price_before : (o v : ℕ) → Decides (price_before file k o v) (PriceBefore file k o v)
  decides_price_before o v =
      decides_some_before _ _
      (λ j. Decides-like _
      (λ (letter, (option, value)). (letter, option, value))
      (λ at. (at.0, (at.1, at.2)))
      (Decides-and _ _ (Decides-eqb (byte file j 0) p_letter) (Decides-and _ _ (Decides-eqb (byte file j 1) o) (Decides-eqb (byte file j 2) v))))
      k

  pub repeated_row : (t : Tally) (r : Bool) (o v p : ℕ) → HasLetter file k r_letter → o ≡ byte file k 1 → v ≡ byte file k 2 → p ≡ byte file k 3
      → r ≡ row_marked t o v p → ((i w q : ℕ) → row_marked t i w q ≡ row_before file k i w q) → Decides r (Repeated file k)
  repeated_row t r o v p letter is-o is-v is-p is rows =
      let before = Decides-at r _ (rw (is-o, is-v, is-p) at (is ∙ rows o v p)) (decides_row_before _ _ _) in (
        λ yes-row. inl (letter, before.0 yes-row),
        λ again. before.1 (⊎_elim (λ row. row.1) (λ price. absurd (omega (arith, letter, price.0))) again),
      )

  pub repeated_price : (t : Tally) (r : Bool) (o v : ℕ) → HasLetter file k p_letter → o ≡ byte file k 1 → v ≡ byte file k 2
      → r ≡ price_marked t o v → ((i w : ℕ) → price_marked t i w ≡ price_before file k i w) → Decides r (Repeated file k)
  repeated_price t r o v letter is-o is-v is prices =
      let before = Decides-at r _ (rw (is-o, is-v) at (is ∙ prices o v)) (decides_price_before _ _) in (
        λ yes-price. inr (letter, before.0 yes-price),
        λ again. before.1 (⊎_elim (λ row. absurd (omega (arith, letter, row.0))) (λ price. price.1) again),
      )

-- past the last option nothing is kept
pub none_past : (sets : List ValueSet) (o v : ℕ) → length sets ≤ o → false ≡ has_in sets o v
none_past sets o v past = sym (ap (λ s. member s v) (get_or_past sets o no_values past) ∙ has_none v)

pub unmarked_past : (t : Tally) (o v p : ℕ) → length t.rows ≤ p → false ≡ row_marked t o v p
unmarked_past t o v p past = sym (ap (λ sets. has_in sets o v) (get_or_past t.rows p [] past) ∙ has_none v)
