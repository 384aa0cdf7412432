-- Which values keep every rule of a list, and the rules after one record more. Assumes nothing.
use Rattle.std.proofs.Common.{◌≡◌, ℕ, zero, suc, ◌+◌, ◌<◌, ◌≤◌, Bool, true, false, cond, not, ◌&&◌, ◌||◌, T, List, [], ◌∷◌, length, get_or, set, replicate, ℤ, ◌<ℤ◌, Some, None, is_some, Decides, Option, sym, refl, ap, ◌∙◌, subst, ap₂, subst₂, arith, true≢false, lt-ltb}
use lib.Signed.{lt_z}
use Rattle.std.specs.List.{count_by, position, position_or_len}
use Rattle.std.specs.Option.{is_none, MatchOption}
use Rattle.std.proofs.lemmas.List.Quantifiers.{position-Some}
use Rattle.std.proofs.lemmas.List.Sums.{sum_by-set}
use Rattle.std.proofs.lemmas.Bool.Decides.{nat_tests, Decides-and, Decides-at, Decides-eqb, Decides-like}
use Rattle.record_file.specs.Layout.{HasLetter, l_letter}
use Rattle.record_file.proofs.Counting.{count_before_none, count_before_in, count_before_out}
use Rattle.record_file.proofs.Counting.{decides_none, decides_one_more, decides_no_more}
use Rattle.file_books.specs.declared.inequalities.Inequality.{Inequality}
use Rattle.file_books.specs.Inequalities.{broken, keeps_all, combined, signed_pair, InequalityForbids, RuleOf, Adds, RulesBefore}

decides_less : (a b : ℤ) → Decides (lt_z a b) (a <ℤ b)
decides_less a b = (λ yes. record { lt = subst T (sym yes) tt }, λ less. told (lt_z a b) less.lt)
  where
    told : (t : Bool) → T t → t ≡ true
    told true _ = refl
    told false never = absurd never

-- a rule more, where there was none
keeps_set : (i x j y : ℕ) (rs : List (Option Inequality)) (t : ℕ) (r : Inequality) → t < length rs → is_none (get_or rs t None) ≡ true
    → keeps_all (set rs t (Some r)) i x j y ≡ (keeps_all rs i x j y && not (broken r i x j y))
keeps_set i x j y [] t r lt free = absurd (omega arith)
keeps_set i x j y (None ∷ rs) zero r lt free = grind (arith, nat_tests)
keeps_set i x j y (Some s ∷ rs) zero r lt free = absurd (true≢false (sym free))
keeps_set i x j y (None ∷ rs) (suc t) r lt free = keeps_set i x j y rs t r (omega arith) free
keeps_set i x j y (Some s ∷ rs) (suc t) r lt free = let rest = keeps_set i x j y rs t r (omega arith) free in grind (arith, nat_tests)

some_free : (rs : List (Option Inequality)) → 1 ≤ count_by is_none rs → position_or_len is_none rs < length rs
some_free [] some = absurd (omega arith)
some_free (None ∷ rs) some = let first : position_or_len is_none (None ∷ rs) ≡ 0 = refl in omega (arith, first)
some_free (Some s ∷ rs) some =
    let later : position_or_len is_none (Some s ∷ rs) ≡ 1 + position_or_len is_none rs = refl in
    omega (arith, later, some_free rs some)

pub has_room : (rs : List (Option Inequality)) → 1 ≤ count_by is_none rs → is_some (position is_none rs) ≡ true
has_room rs some =
    let found : position is_none rs ≡ Some (position_or_len is_none rs) = rw (lt-ltb (position_or_len is_none rs) (length rs) (some_free rs some)) refl in
    ap is_some found

module _ (before after : List (Option Inequality)) (r : Inequality) (adds : Adds before r after) (some : 1 ≤ count_by is_none before) where
  added : (t : ℕ) × (after ≡ set before t (Some r)) × (t < length before) × (is_none (get_or before t None) ≡ true)
  added =
      let t = position_or_len is_none before in
      let lt : t < length before = some_free before some in
      let found : position is_none before ≡ Some t = rw (lt-ltb t (length before) lt) refl in
      (t, subst (λ o. MatchOption o (after ≡ before) (λ i. after ≡ set before i (Some r))) found adds, lt, (position-Some is_none before t None found).1)

  fewer_free : count_by is_none after + 1 ≡ count_by is_none before
  fewer_free =
      rw added.1
      (omega (arith, sum_by-set (λ o. cond (is_none o) 1 0) before added.0 (Some r) None added.2, ap (λ b. cond {A = ℕ} b 1 0) added.3))

  breaks_more : (i x j y : ℕ) → not (keeps_all after i x j y) ≡ (not (keeps_all before i x j y) || broken r i x j y)
  breaks_more i x j y = rw added.1 (let kept = keeps_set i x j y before added.0 r added.2 added.3 in grind (arith, nat_tests))

module _ (file : List ℕ) (k : ℕ) (rules : List (Option Inequality)) (h : RulesBefore file k rules) where
  -- a record of another kind
  pub rules_kept : (HasLetter file k l_letter → ⊥) → RulesBefore file (k + 1) rules
  rules_kept other = record {
    free = omega (arith, h.free, count_before_out file l_letter k other);
    broken = λ i x j y. decides_no_more (λ l. InequalityForbids file l i x j y) k _ (h.broken i x j y) (λ (at, _). other at.0);
  }

  -- an L record
  pub rules_added : (r : Inequality) (after : List (Option Inequality)) → RuleOf file k r → 1 ≤ count_by is_none rules → Adds rules r after → RulesBefore file (k + 1) after
  rules_added r after is some adds = record {
    free = omega (arith, h.free, fewer_free rules after r adds some, count_before_in file l_letter k is.letter);
    broken = λ i x j y. Decides-at _ _ (breaks_more rules after r adds some i x j y)
        (decides_one_more (λ l. InequalityForbids file l i x j y) k _ _ (h.broken i x j y) (here i x j y));
  }
    where
      here : (i x j y : ℕ) → Decides (broken r i x j y) (InequalityForbids file k i x j y)
      here i x j y =
          Decides-like _
          (λ ((option, other), less). ((is.letter, sym is.option ∙ option, sym is.other ∙ other), subst₂ ◌<ℤ◌ sum is.c less))
          (λ (at, less). ((is.option ∙ at.1, is.other ∙ at.2), subst₂ ◌<ℤ◌ (sym sum) (sym is.c) less))
          (Decides-and _ _ (Decides-and _ _ (Decides-eqb r.option i) (Decides-eqb r.other j)) (decides_less (combined r.p r.q x y) r.c))
        where
          sum : combined r.p r.q x y ≡ combined (signed_pair file k 4) (signed_pair file k 6) x y
          sum = ap₂ (λ p q. combined p q x y) is.p is.q

-- before the first record
pub rules_none : (file : List ℕ) → RulesBefore file 0 (replicate 16 None)
rules_none file = record {
  free = omega (arith, count_before_none file l_letter);
  broken = λ i x j y. decides_none (λ l. InequalityForbids file l i x j y) _ refl;
}
