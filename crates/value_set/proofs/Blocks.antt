-- The sides of the empty block, what `==` of blocks tells, and the product of the numbers of values of a block's sides.
-- Assumes nothing.
use Rattle.std.proofs.Common.{nat_eq, ◌+◌, drop, [], ◌∷◌, Bool, Decides, IsTrue, ◌↔◌, EachIndex, List, length, true, ◌≡◌, ℕ, zero, suc, ◌*◌, ◌^◌, ◌<◌, ◌≤◌, false, get_or, replicate, sym, refl, ap, ◌∙◌, ⊎_elim, le_trans, le_of_eq, mul-zero, zero-mul, arith, pow_mono, ap₂}
use Rattle.std.proofs.lemmas.Nat.{mul-le, pow-add}
use Rattle.std.proofs.lemmas.Bool.{cases_eq, cases_lt, true≢false}
use Rattle.std.proofs.lemmas.List.{drop_more, get_or_past}
use Rattle.std.proofs.Math.ListN.{drop_of_length-le}
use Rattle.std.specs.Cmp.Lexicographic.{pointwise}
use Rattle.std.specs.Ordering.{on}
use Rattle.std.proofs.lemmas.Bool.Decides.{Decides-eqb}
use Rattle.std.proofs.lemmas.Slice.Eq.{slice_eq-Decides}
use Rattle.value_set.specs.declared.block.Block.{Block}
use Rattle.value_set.specs.declared.set.ValueSet.{ValueSet}
use Rattle.value_set.specs.Blocks.{block_size, LiesIn, no_block, no_values, side_of}
use Rattle.value_set.specs.Limits.{most_options}
use Rattle.value_set.specs.Members.{member, size, NoMember}
use Rattle.value_set.proofs.Bits.{has_none}
use Rattle.value_set.proofs.Sizes.{size-le, size_none}

-- what holds of the repeated value and of the default holds at every place
pub holds_throughout : {X : Type 0} (P : X → Type 0) (n : ℕ) (x d : X) (i : ℕ) → P x → P d → P (get_or (replicate n x) i d)
holds_throughout P zero x d i here past = past
holds_throughout P (suc n) x d zero here past = here
holds_throughout P (suc n) x d (suc i) here past = holds_throughout P n x d i here past

pub no_block_empty : (i v : ℕ) → member (side_of no_block i) v ≡ false
no_block_empty i v = holds_throughout (λ s. member s v ≡ false) most_options no_values no_values i (has_none v) (has_none v)

-- sets are compared by their masks, and are the same if those are
sets_same : (s t : ValueSet) → Decides (nat_eq s.mask t.mask) (s ≡ t)
sets_same s t =
    let h : Decides (nat_eq s.mask t.mask) (s.mask ≡ t.mask) = Decides-eqb s.mask t.mask in
    (λ e. ap (λ m. record { mask = m }) (h.0 e), λ e. h.1 (ap (λ (u : ValueSet). u.mask) e))

-- what `==` of two blocks computes tells whether their sides are the same; a caller of `!=` cites this
pub blocks_same : (a b : List ValueSet) → Decides (pointwise (on (λ (s : ValueSet). s.mask) nat_eq) a b) (a ≡ b)
blocks_same a b = slice_eq-Decides sets_same a b _ refl

-- a side has at most 32 values, which is 2 to the power of 5
pub block_size-le : (b : Block) (n : ℕ) → block_size b n ≤ 2 ^ (n * 5)
unfolding block_size
block_size-le b zero = omega arith
block_size-le b (suc n) =
    le_trans (mul-le _ _ _ _ (block_size-le b n) (size-le (side_of b n)))
    (le_of_eq (sym (ap (λ k. 2 ^ k) (omega arith) ∙ pow-add 2 (n * 5) 5)))

pub block_size_fits : (b : Block) (n : ℕ) → n ≤ 12 → block_size b n ≤ 2 ^ 60
block_size_fits b n le = let most : n * 5 ≤ 60 = omega arith in le_trans (block_size-le b n) (pow_mono most)

-- blocks with the same first sides; no function needs it yet
pub block_size_same : (b c : Block) (n : ℕ) → ((i : ℕ) → i < n → side_of b i ≡ side_of c i) → block_size b n ≡ block_size c n
unfolding block_size
block_size_same b c zero same = refl
block_size_same b c (suc n) same =
    ap₂ (λ k s. k * size s) (block_size_same b c n (λ i lt. same i (omega arith))) (same n (omega arith))

-- a block with an empty side; no function needs it yet
pub block_size_none : (b : Block) (n i : ℕ) → i < n → NoMember (side_of b i) → block_size b n ≡ 0
unfolding block_size
block_size_none b zero i lt none = absurd (omega arith)
block_size_none b (suc n) i lt none =
    ⊎_elim
    (λ last. ap (λ k. block_size b n * size (side_of b k)) (sym last) ∙ ap (λ k. block_size b n * k) (size_none (side_of b i) none) ∙ mul-zero (block_size b n))
    (λ before. ap (λ k. k * size (side_of b n)) (block_size_none b n i (omega arith) none) ∙ zero-mul (size (side_of b n)))
    (cases_eq i n)

-- a configuration lies in a block if each of its values is in a side, since there are no sides past the last
pub lies_in : (b : Block) (c : List ℕ) (r : Bool) → length b.sides ≡ 12
    → (IsTrue r ↔ EachIndex c (λ k. member (side_of b k) (get_or c k 0) ≡ true)) → Decides r (LiesIn b c)
lies_in b c r sides each = (λ yes. (fits (each.0 yes), each.0 yes), λ lies. each.1 lies.1)
  where
    fits : EachIndex c (λ k. member (side_of b k) (get_or c k 0) ≡ true) → length c ≤ 12
    fits inside =
        ⊎_elim
        (λ long. absurd (true≢false (sym (inside 12 long) ∙ ap (λ s. member s (get_or c 12 0)) (get_or_past b.sides 12 no_values (omega arith)) ∙ has_none (get_or c 12 0))))
        (λ le. le)
        (cases_lt 12 (length c))

-- the next of the sides that are left, from side k on
pub side_next : (b : Block) (k : ℕ) (left next : List ValueSet) (s : ValueSet) → length b.sides ≡ 12 → left ≡ drop k b.sides → left ≡ s ∷ next
    → (k < 12) × (s ≡ side_of b k) × (next ≡ drop (k + 1) b.sides)
side_next b k left next s sides at comes = ⊎_elim found (λ past. absurd (gone past)) (cases_lt k 12)
  where
    gone : 12 ≤ k → ⊥
    gone past =
        let none : drop k b.sides ≡ [] = drop_of_length-le b.sides (omega arith) in
        cc

    found : k < 12 → (k < 12) × (s ≡ side_of b k) × (next ≡ drop (k + 1) b.sides)
    found lt =
        let more : drop k b.sides ≡ side_of b k ∷ drop (k + 1) b.sides = drop_more b.sides k no_values (omega arith) in
        (lt, cc, cc)
