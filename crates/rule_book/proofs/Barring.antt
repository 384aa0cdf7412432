-- What changes when one more value is barred, and that nothing does where none is barred. Assumes nothing.
use Rattle.std.proofs.Common.{◌≡◌, ℕ, ◌<◌, ◌≤◌, Bool, true, false, not, ◌&&◌, ◌||◌, eqb, ltb, refl, ◌∙◌, ap₂, arith}
use Rattle.std.proofs.lemmas.Bool.Decides.{nat_tests}
use Rattle.value_set.specs.Blocks.{side_of}
use Rattle.value_set.specs.Limits.{most_options, most_values}
use Rattle.value_set.specs.Members.{member}
use Rattle.value_set.specs.declared.block.Block.{Block}
use Rattle.value_set.specs.declared.set.ValueSet.{ValueSet}
use Rattle.rule_book.specs.Books.{Meaning, SameAnswers, in_set}
use Rattle.rule_book.specs.Barred.{without_barred, differs, Loses}

pub nothing_barred : (m : Meaning) (barred : Block) → ((i v : ℕ) → member (side_of barred i) v ≡ false) → SameAnswers (without_barred m barred) m
nothing_barred m barred none = record {
  options = refl;
  sets = λ i v. let at = none i v in grind (arith, nat_tests);
  rows = λ i a j b. let at = none i a in let at' = none j b in grind (arith, nat_tests);
}

-- two tests of their own, drawn out of a conjunction
both_out : (e x y t p q : Bool) → (e && ((x && p) && ((y && q) && t))) ≡ ((e && (x && (y && t))) && (p && q))
both_out e x y t p q = grind (arith, nat_tests)

module _ (m : Meaning) (before after : Block) (k w : ℕ)
    (more : (i v : ℕ) → member (side_of after i) v ≡ (member (side_of before i) v || (eqb i k && eqb v w))) where
  set_loses : (i v : ℕ) → in_set (without_barred m after) i v ≡ (in_set (without_barred m before) i v && differs i v k w)
  set_loses i v = let at = more i v in grind (arith, nat_tests)

  loses : Loses (without_barred m before) k w (without_barred m after)
  loses = record {
    options = refl;
    sets = set_loses;
    rows = λ i a j b.
        ap₂ (λ x y. not (eqb i j) && (x && (y && m.together i a j b))) (set_loses i a) (set_loses j b)
        ∙ both_out (not (eqb i j)) (in_set (without_barred m before) i a) (in_set (without_barred m before) j b) _ (differs i a k w) (differs j b k w);
  }

module _ (m : Meaning) (few : m.options ≤ most_options) (before after : Block) (s : ValueSet) (k w : ℕ)
    (there : in_set (without_barred m before) k w ≡ true)
    (only : (v : ℕ) → member s v ≡ (eqb v w && ltb v most_values))
    (more : (i v : ℕ) → member (side_of after i) v ≡ (member (side_of before i) v || ((eqb i k && ltb k most_options) && member s v))) where
  barred_more : (i v : ℕ) → member (side_of after i) v ≡ (member (side_of before i) v || (eqb i k && eqb v w))
  barred_more i v =
      let small : w < most_values = grind (arith, nat_tests) in
      let known : k < most_options = grind (arith, nat_tests) in
      let here = only v in
      let at = more i v in
      grind (arith, nat_tests)

  pub one_more_barred : Loses (without_barred m before) k w (without_barred m after)
  one_more_barred = loses m before after k w barred_more
