-- The steps of the iterator through the values of a set. Assumes nothing.
use Rattle.std.proofs.Common.{◌≡◌, ℕ, ◌≤◌, length, subst, Option, Some, None, MatchOption, slice_get, sym, ap, ◌∙◌, ⊎_elim, arith, suc, ◌+◌, ◌<◌, false, ◌&&◌, leb, refl}
use Rattle.std.proofs.lemmas.Iterator.{YieldsList}
use Rattle.std.proofs.lemmas.Option.{get_or_from_slice_get, none-some, slice_get-get_or, slice_get_within}
use Rattle.value_set.proofs.Sizes.{size_list}
use Rattle.std.proofs.lemmas.Iterator.Consumers.{YieldsList-from_shown}
use Rattle.std.proofs.lemmas.Bool.{cases_lt, and_parts, cases_order, le-leb, leb-true}
use Rattle.value_set.specs.declared.set.ValueSet.{ValueSet}
use Rattle.value_set.specs.declared.values.Values.{Values}
use Rattle.value_set.specs.Members.{member, list_below, size, Next, Nth, count_below, Least, NoMember, Without}
use Rattle.value_set.proofs.Lists.{list_least, list_none, list_places}
use Rattle.std.proofs.lemmas.Bool.Decides.{nat_tests}
use Rattle.value_set.proofs.Bits.{and_yes}
use Rattle.value_set.proofs.Counts.{count_in, count_le, count_more}

-- n values of the set s are passed, those below a bound, and the set rest has the others: for a loop over the values of a
-- set, of which no function has one yet that counts
pub record Passed (s rest : ValueSet) (n : ℕ) : Type 0 where
  pub bound : ℕ
  pub low : bound ≤ 32
  pub passed : count_below bound (member s) ≡ n
  pub others : (v : ℕ) → member rest v ≡ (member s v && leb bound v)

pub passed_none : (s : ValueSet) → Passed s s 0
unfolding count_below
passed_none s = record {
  bound = 0;
  low = omega arith;
  passed = refl;
  others = λ v. sym (and_yes (member s v) _ (le-leb 0 v (omega arith)));
}

-- where none is left between the bound and v, just the passed values are below v
module _ (s rest : ValueSet) (n v : ℕ) (p : Passed s rest n) where
  gap : ((k : ℕ) → k < v → member rest k ≡ false) → p.bound ≤ v → count_below v (member s) ≡ n
  gap none le =
      count_more p.bound v (member s) le
      (λ k low high. sym (and_yes (member s k) _ (le-leb p.bound k low)) ∙ sym (p.others k) ∙ none k high)
      ∙ p.passed

  pub passed_nth : v < 32 → Least (member rest) v → Nth s n v
  passed_nth lt l =
      let both = and_parts (member s v) (leb p.bound v) (sym (p.others v) ∙ l.there) in
      record { below = lt; there = both.0; before = gap l.least (leb-true p.bound v both.1) }

  pub passed_next : (t : ValueSet) → v < 32 → Least (member rest) v → Without rest v t → Passed s t (n + 1)
  passed_next t lt l without =
      let nth = passed_nth lt l in
      let here = sym (p.others v) ∙ l.there in
      -- `here` says that v is not below the bound
      record {
        bound = suc v;
        low = lt;
        passed = count_in v (member s) nth.there ∙ ap (λ m. m + 1) nth.before;
        others = λ k.
            let after = without k in
            let before = p.others k in
            ⊎_elim
            (λ same. grind (arith, nat_tests))
            (⊎_elim (λ less. let none = l.least k less in grind (arith, nat_tests)) (λ more. grind (arith, nat_tests)))
            (cases_order k v);
      }

pub passed_le : (s rest : ValueSet) (n : ℕ) → Passed s rest n → n ≤ 32
passed_le s rest n p = omega (arith, count_le p.bound (member s))

pub passed_all : (s rest : ValueSet) (n : ℕ) → Passed s rest n → NoMember rest → size s ≡ n
passed_all s rest n p none = gap s rest n 32 p (λ k _. none k) p.low

-- the iterator gives the values in ascending order
pub values_road : (s : Values) → YieldsList (λ a r b. Next a.rest r b.rest) (λ v. v) s (list_below 32 (member s.rest))
values_road = YieldsList-from_shown
    (λ a r b. Next a.rest r b.rest)
    (λ v. v)
    (λ s. list_below 32 (member s.rest))
    (λ s t ended. ap length (list_none 32 (member s.rest) (λ v _. ended.0 v)))
    (λ s v t step. list_least 32 (member s.rest) (member t.rest) v step.0 step.1 step.2)

-- of the values in ascending order, the one at a place has as many smaller ones
pub nth_value : (s : ValueSet) (i : ℕ) (r : Option ℕ) → r ≡ slice_get (list_below 32 (member s)) i → MatchOption r (size s ≤ i) (Nth s i)
nth_value s i None gives =
    ⊎_elim (λ lt. absurd (none-some _ (gives ∙ slice_get-get_or (list_below 32 (member s)) i 0 lt))) (λ le. omega (arith, size_list s)) (cases_lt i (length (list_below 32 (member s))))
nth_value s i (Some v) gives =
    let within = slice_get_within (list_below 32 (member s)) i v (sym gives) in
    let at = get_or_from_slice_get (list_below 32 (member s)) i v 0 (sym gives) in
    subst (Nth s i) at (list_places 32 (member s) i (omega (arith, size_list s)))
