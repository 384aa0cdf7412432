-- The cheapest of a list of priced values. Assumes nothing.
use Rattle.std.proofs.Common.{◌≡◌, ℕ, suc, ◌<◌, Bool, true, cond, ltb, Some, None, Option, List, [], ◌∷◌, map, length, get_or, sym, refl, ap, ap₂, ◌∙◌, subst, ⊎_elim, arith, MatchOption}
use Rattle.std.specs.Fn.{Called}
use Rattle.std.specs.Iterator.{ReducesItems, FoldTurn}
use Rattle.std.specs.List.{FoldsTo, IsFirstBest, fold, reduce, best_of}
use Rattle.std.proofs.lemmas.Iterator.{YieldsList}
use Rattle.std.proofs.lemmas.Iterator.Consumers.{reduce_from_yields_List}
use Rattle.std.proofs.lemmas.Bool.{cases_Bool, ltb-true, ltb-false}
use Rattle.std.proofs.lemmas.Bool.Decides.{nat_tests}
use Rattle.std.proofs.lemmas.List.{get_or-map, length-map}
use Rattle.std.proofs.lemmas.List.MinMax.{IsStrictWeakOrder-by_number, IsFirstBest-from_best_of}
use denote.Param.Members.{Mut}
use Rattle.value_set.specs.Members.{count_below, list_below, Placed}
use Rattle.value_set.proofs.Counts.{count_in, count_some, count_up}
use Rattle.value_set.proofs.Lists.{length_list, list_places, place_of}
use Rattle.book_report.specs.declared.cheapest.Cheapest.{Cheapest}
use Rattle.book_report.specs.Cheapest.{CheapestOf, NoValue, cheaper}

-- the first unless the second costs less
abbrev chosen : Cheapest → Cheapest → Cheapest
chosen b c = cheaper (Some b) c

abbrev pub priced : (ℕ → ℕ) → ℕ → Cheapest
priced price v = record { value = v; price = price v }

-- ---- what `reduce` gives of a chain's list

module _ {F : Type 0} (g : Mut F (Cheapest × (Cheapest × Unit {0})) Cheapest)
    (chooses : (p : F) (b c r : Cheapest) (q : F) → Called g p (b, (c, tt)) r q → r ≡ chosen b c) where
  turns : (xs : List Cheapest) (p q : F × Cheapest) → FoldsTo (FoldTurn g) p xs q → FoldsTo (λ b c r. r ≡ chosen b c) p.1 xs q.1
  turns [] p q e = ap (λ z. z.1) e
  turns (x ∷ xs) p q (m, called, rest) = (m.1, chooses p.0 p.1 x m.1 m.0 called, turns xs m q rest)

  pub reduced :
      {S : Type 0} {steps : S → Option Cheapest → S → Type 0} (s : S) (f : F) {all : List Cheapest} (r : Option Cheapest) →
      ReducesItems steps g s f r →
      YieldsList steps (λ x. x) s all →
      r ≡ reduce chosen all
  reduced s f None ran road = reduce_from_yields_List chosen s None ran road
  reduced s f (Some c) (x, xs, q, drains, ran) road =
      reduce_from_yields_List chosen s (Some c) (x, xs, drains, turns xs (f, x) (q, c) ran) road

-- ---- the first of the cheapest ones of a list

same_choice : (b c : Cheapest) → chosen b c ≡ cond (ltb c.price b.price) c b
same_choice b c = grind (arith, nat_tests)

same_best : (b : Cheapest) (xs : List Cheapest) → fold chosen b xs ≡ best_of (λ x y. ltb x.price y.price) b xs
same_best b [] = refl
same_best b (x ∷ xs) =
    ap (λ k. fold chosen k xs) (same_choice b x) ∙ same_best (cond (ltb x.price b.price) x b) xs

module _ (n : ℕ) (p : ℕ → Bool) (price : ℕ → ℕ) (low : (v : ℕ) → p v ≡ true → v < n) where
  none_found : [] ≡ list_below n p → NoValue p
  none_found is = λ v.
      ⊎_elim
      (λ there. absurd (omega (arith, count_some n p v (low v there) there, length_list n p, ap length is)))
      (λ missing. missing)
      (cases_Bool (p v))

  module _ (vs : List ℕ) (is : vs ≡ list_below n p) where
    place_within : (v : ℕ) → p v ≡ true → count_below v p < length vs
    place_within v h = omega (arith, ap length is, length_list n p, count_in v p h, count_up (suc v) n p (low v h))

    at_place : (v : ℕ) → p v ≡ true → get_or (map (priced price) vs) (count_below v p) (priced price 0) ≡ priced price v
    at_place v h =
        get_or-map (priced price) vs (count_below v p) 0 (priced price 0) (place_within v h)
        ∙ ap (λ l. priced price (get_or l (count_below v p) 0)) is
        ∙ ap (priced price) (place_of n p v (low v h) h)

    found :
        (k : ℕ) →
        k < length vs →
        IsFirstBest (λ x y. ltb x.price y.price) (map (priced price) vs) (length vs) k →
        CheapestOf p price (priced price (get_or vs k 0))
    found k inside best =
        let w = get_or vs k 0 in
        let placed : Placed n p k w =
        subst (λ l. Placed n p k (get_or l k 0)) (sym is) (list_places n p k (omega (arith, ap length is, length_list n p))) in
        let here = get_or-map (priced price) vs k 0 (priced price 0) inside in
        record {
          there = placed.there;
          cost = refl;
          cheapest = λ v h.
              ltb-false _ _
              (ap₂ (λ x y. ltb x.price y.price) (sym (at_place v h)) (sym here) ∙ best.1 (count_below v p) (priced price 0) (place_within v h));
          least = λ v lt h.
              ltb-true _ _
              (ap₂ (λ x y. ltb x.price y.price) (sym here) (sym (at_place v h))
              ∙ best.2 (count_below v p) (priced price 0) (omega (arith, placed.before, count_in v p h, count_up (suc v) w p lt)));
        }

  pub cheapest_listed :
      (vs : List ℕ) (r : Option Cheapest) →
      vs ≡ list_below n p →
      r ≡ reduce chosen (map (priced price) vs) →
      MatchOption r (NoValue p) (CheapestOf p price)
  cheapest_listed [] r is e = subst (λ r. MatchOption r (NoValue p) (CheapestOf p price)) (sym e) (none_found is)
  cheapest_listed (v ∷ vs) r is e =
      let first = priced price v in
      let best = IsFirstBest-from_best_of (IsStrictWeakOrder-by_number (λ (c : Cheapest). c.price)) first (map (priced price) vs) in
      let long = length-map vs (priced price) in
      let inside : best.0 < length (v ∷ vs) = omega (arith, best.1.0, long) in
      let is_first = subst (λ m. IsFirstBest (λ x y. ltb x.price y.price) (map (priced price) (v ∷ vs)) (suc m) best.0) long best.1 in
      let same = same_best first (map (priced price) vs) ∙ sym best.2 ∙ get_or-map (priced price) (v ∷ vs) best.0 0 first inside in
      subst (λ r. MatchOption r (NoValue p) (CheapestOf p price)) (sym (e ∙ ap Some same))
      (found (v ∷ vs) is best.0 inside is_first)
