-- The list of the numbers below a bound that pass a test. Assumes nothing.
use Rattle.std.proofs.Common.{◌≡◌, ℕ, zero, suc, ◌+◌, ◌<◌, ◌≤◌, Bool, true, false, cond, not, ◌&&◌, eqb, [], ◌∷◌, ◌++◌, length, get_or, sym, refl, ap, ◌∙◌, subst, ap₂, ⊎_elim, append-nil, arith, length-append}
use lib.Seq.{get_or_at}
use Rattle.std.proofs.lemmas.List.{get_or_append_left}
use Rattle.std.proofs.lemmas.Bool.{and_left, and_right, cases_Bool, cases_eq, cases_lt, eq-eqb, ne_eqb, not_from_true, not_from_false}
use Rattle.value_set.specs.Members.{count_below, list_below, Least, Placed}
use Rattle.value_set.proofs.Bits.{and_yes}
use Rattle.value_set.proofs.Counts.{count_in, count_out, count_up, count_unique}

list_in : (n : ℕ) (p : ℕ → Bool) → p n ≡ true → list_below (suc n) p ≡ list_below n p ++ n ∷ []
unfolding list_below
list_in n p there = ap (λ b. list_below n p ++ cond b (n ∷ []) []) there

list_out : (n : ℕ) (p : ℕ → Bool) → p n ≡ false → list_below (suc n) p ≡ list_below n p
unfolding list_below
list_out n p missing = ap (λ b. list_below n p ++ cond b (n ∷ []) []) missing ∙ append-nil (list_below n p)

-- it is as long as their number
pub length_list : (n : ℕ) (p : ℕ → Bool) → length (list_below n p) ≡ count_below n p
unfolding count_below list_below
length_list zero p = refl
length_list (suc n) p = length-append (list_below n p) _ ∙ ap₂ (λ a b. a + b) (length_list n p) (one (p n))
  where
    one : (b : Bool) → length (cond b (n ∷ []) []) ≡ cond b 1 0
    one true = refl
    one false = refl

-- ---- the list is ascending, and has each number once

placed_more : (n : ℕ) (p : ℕ → Bool) (i v : ℕ) → Placed n p i v → Placed (suc n) p i v
placed_more n p i v h = record { below = omega (arith, h.below); there = h.there; before = h.before }

list_early : (n : ℕ) (p : ℕ → Bool) (i : ℕ) → i < count_below n p → get_or (list_below (suc n) p) i 0 ≡ get_or (list_below n p) i 0
unfolding list_below
list_early n p i lt =
    let within : i < length (list_below n p) = omega (arith, length_list n p) in
    get_or_append_left (list_below n p) _ 0 i within

passes_last : (n : ℕ) (p : ℕ → Bool) → count_below n p < count_below (suc n) p → p n ≡ true
passes_last n p more =
    ⊎_elim (λ there. there) (λ missing. absurd (omega (arith, count_out n p missing))) (cases_Bool (p n))

list_late : (n : ℕ) (p : ℕ → Bool) (i : ℕ) → count_below n p ≤ i → i < count_below (suc n) p → Placed (suc n) p i (get_or (list_below (suc n) p) i 0)
list_late n p i le lt =
    let there = passes_last n p (omega arith) in
    let last : count_below n p ≡ i = omega (arith, count_in n p there) in
    let found = ap (λ l. get_or l i 0) (list_in n p there) ∙ get_or_at (list_below n p) n [] 0 i (length_list n p ∙ last) in
    subst (Placed (suc n) p i) (sym found) (record { below = omega arith; there = there; before = last })

pub list_places : (n : ℕ) (p : ℕ → Bool) (i : ℕ) → i < count_below n p → Placed n p i (get_or (list_below n p) i 0)
unfolding count_below
list_places zero p i lt = absurd (omega arith)
list_places (suc n) p i lt =
    ⊎_elim
    (λ early. subst (Placed (suc n) p i) (sym (list_early n p i early)) (placed_more n p i _ (list_places n p i early)))
    (λ late. list_late n p i late lt)
    (cases_lt i (count_below n p))

-- each number that passes is in the list
pub place_of : (n : ℕ) (p : ℕ → Bool) (v : ℕ) → v < n → p v ≡ true → get_or (list_below n p) (count_below v p) 0 ≡ v
place_of n p v lt there =
    let within : count_below v p < count_below n p = omega (arith, count_in v p there, count_up (suc v) n p lt) in
    let found = list_places n p (count_below v p) within in
    count_unique p _ v found.there there found.before

-- where none passes
pub list_none : (n : ℕ) (p : ℕ → Bool) → ((v : ℕ) → v < n → p v ≡ false) → list_below n p ≡ []
unfolding list_below
list_none zero p none = refl
list_none (suc n) p none = list_out n p (none n (omega arith)) ∙ list_none n p (λ v lt. none v (omega arith))

-- where the least is the last too
list_one : (n : ℕ) (p q : ℕ → Bool) (v : ℕ) → v ≡ n → Least p v → ((k : ℕ) → q k ≡ (p k && not (eqb k v))) → list_below (suc n) p ≡ v ∷ list_below (suc n) q
list_one n p q v last l without =
    let none : list_below n p ≡ [] = list_none n p (λ k lt. l.least k (omega arith)) in
    let none_q : list_below n q ≡ [] = list_none n q (λ k lt. without k ∙ and_left _ _ (l.least k (omega arith))) in
    let gone : q n ≡ false = without n ∙ and_right _ _ (not_from_true _ (eq-eqb n v (sym last))) in
    list_in n p (ap p (sym last) ∙ l.there) ∙ ap₂ (λ xs k. xs ++ k ∷ []) none (sym last)
    ∙ ap (λ xs. v ∷ xs) (sym (list_out n q gone ∙ none_q))

-- the least comes first, and the rest is the list of the others
pub list_least : (n : ℕ) (p q : ℕ → Bool) (v : ℕ) → v < n → Least p v → ((k : ℕ) → q k ≡ (p k && not (eqb k v))) → list_below n p ≡ v ∷ list_below n q
unfolding list_below
list_least zero p q v lt l without = absurd (omega arith)
list_least (suc n) p q v lt l without =
    let kept : (v ≡ n → ⊥) → p n ≡ q n = λ other. sym (without n ∙ and_yes (p n) _ (not_from_false _ (ne_eqb n v (omega arith)))) in
    ⊎_elim
    (λ last. list_one n p q v last l without)
    (λ before. ap₂ (λ xs b. xs ++ cond b (n ∷ []) []) (list_least n p q v (omega arith) l without) (kept before))
    (cases_eq v n)
