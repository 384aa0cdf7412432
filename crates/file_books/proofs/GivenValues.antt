-- The values that the O records before record k give, after one record more. Assumes nothing.
use Rattle.std.proofs.Common.{◌≡◌, ℕ, ◌+◌, ◌<◌, ◌≤◌, Bool, ◌&&◌, ◌||◌, eqb, ltb, List, Decides, sym, refl, ◌∙◌, arith}
use Rattle.std.proofs.lemmas.Bool.Decides.{nat_tests, Decides-eqb, Decides-ltb, Decides-and, Decides-like, Decides-at}
use Rattle.value_set.specs.Blocks.{side_of}
use Rattle.value_set.specs.Limits.{most_options, most_values}
use Rattle.value_set.specs.Members.{member}
use Rattle.value_set.specs.declared.block.Block.{Block}
use Rattle.value_set.specs.declared.set.ValueSet.{ValueSet}
use Rattle.record_file.specs.Layout.{byte, HasLetter, o_letter, SomeBefore, KnownValue}
use Rattle.record_file.proofs.Counting.{decides_one_more, decides_no_more}
use Rattle.file_books.specs.Domains.{Given}

-- record k is an O record that gives value v of option i
abbrev pub GivesValue : List ℕ → ℕ → ℕ → ℕ → Type 0
GivesValue file i v k = HasLetter file k o_letter × ((byte file k 1 ≡ i) × (v < byte file k 2))

module _ (file : List ℕ) (k : ℕ) (before : Block)
    (h : (i v : ℕ) → Decides (member (side_of before i) v) (SomeBefore k (GivesValue file i v))) where
  -- a record of another kind
  pub values_kept : (HasLetter file k o_letter → ⊥) → (i v : ℕ) → Decides (member (side_of before i) v) (SomeBefore (k + 1) (GivesValue file i v))
  values_kept other i v = decides_no_more (GivesValue file i v) k _ (h i v) (λ gives. other gives.0)

  -- an O record
  pub values_added : (after : Block) (p : ℕ × ValueSet) → Given file k p → byte file k 1 < most_options → byte file k 2 ≤ most_values
      → ((i v : ℕ) → member (side_of after i) v ≡ (member (side_of before i) v || ((eqb i p.0 && ltb p.0 most_options) && member p.1 v)))
      → (i v : ℕ) → Decides (member (side_of after i) v) (SomeBefore (k + 1) (GivesValue file i v))
  values_added after p (letter, option, values) small few more i v =
      let here : Decides (eqb i p.0 && ltb v (byte file k 2)) (GivesValue file i v k) =
      Decides-like _ (λ (is, lt). (letter, (sym (is ∙ option), lt))) (λ (_, (is, lt)). (sym is ∙ sym option, lt)) (Decides-and _ _ (Decides-eqb i p.0) (Decides-ltb v (byte file k 2))) in
      let at = more i v in
      let is = values v in
      let same : member (side_of after i) v ≡ (member (side_of before i) v || (eqb i p.0 && ltb v (byte file k 2))) = grind (arith, nat_tests) in
      Decides-at _ _ same (decides_one_more (GivesValue file i v) k _ _ (h i v) here)

-- the values that some O record before record k gives are those that are known
pub decides_known : (file : List ℕ) (k i v : ℕ) (r : Bool) → Decides r (SomeBefore k (GivesValue file i v)) → Decides r (KnownValue file k i v)
decides_known file k i v r =
    Decides-like r
    (λ (j, lt, (letter, (option, value))). (byte file j 2, (j, lt, (letter, option, refl)), value))
    (λ (m, (j, lt, (letter, option, is)), value). (j, lt, (letter, (option, omega arith))))
