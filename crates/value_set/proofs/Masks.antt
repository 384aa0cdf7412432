-- What the operations on masks of 32 bits do, as the goals of the functions on sets write them. Assumes nothing.
use Rattle.std.proofs.Common.{◌≡◌, ℕ, ◌-◌, ◌*◌, ◌/◌, ◌%◌, ◌^◌, ◌<◌, ◌≤◌, false, not, true, ◌&&◌, eqb, ltb, sym, ap, ◌∙◌, ⊎_elim, eq-zero-or-pos}
use lib.Bits.{bit_and}
use lib.Count.{count_trailing_zeros, ones}
use Rattle.std.proofs.lemmas.Nat.{and_mask, one_shl}
use Rattle.std.proofs.lemmas.Bool.{and_from, and_left, cases_Bool, eq-eqb, false≢true}
use Rattle.std.proofs.lemmas.Bool.Decides.{nat_tests}
use Rattle.value_set.specs.declared.set.ValueSet.{ValueSet}
use Rattle.value_set.specs.Members.{has, member, size, Least, NoMember}
use Rattle.value_set.proofs.Bits.{ext, has_below, none_zero, has-and, has-or, has_above, has_clear, has_first, has_none, has_single}
use Rattle.value_set.proofs.Leasts.{least_trailing}
use Rattle.value_set.proofs.Counts.{ones_count}

pub difference_mask : (a b v : ℕ) → a < 2 ^ 32 → b < 2 ^ 32 → has (bit_and a (4294967295 - b)) v ≡ (has a v && not (has b v))
difference_mask a b v = has_clear 32 a b v

pub single_mask : (k v : ℕ) → k < 32 → has (1 * 2 ^ k % 4294967296) v ≡ eqb v k
single_mask k v lt = ap (λ m. has m v) (one_shl k 32 lt) ∙ has_single k v

pub first_mask : (k v : ℕ) → k < 32 → has (1 * 2 ^ k % 4294967296 - 1) v ≡ ltb v k
first_mask k v lt = ap (λ m. has (m - 1) v) (one_shl k 32 lt) ∙ has_first k v

pub all_mask : (v : ℕ) → has 4294967295 v ≡ ltb v 32
all_mask v = has_first 32 v

pub past_mask : (m v : ℕ) → m < 2 ^ 32 → 32 ≤ v → has m v ≡ false
past_mask m v = has_above 32 m v

pub ones_mask : (s : ValueSet) → s.mask < 2 ^ 32 → ones s.mask ≡ size s
ones_mask s = ones_count 32 s.mask

pub empty_mask : (m : ℕ) → ((v : ℕ) → has m v ≡ false) → eqb m 0 ≡ true
empty_mask m none = eq-eqb m 0 (none_zero m none)

pub shifted_mask : (m v : ℕ) → has m v ≡ eqb (bit_and (m / 2 ^ v) 1) 1
unfolding has
shifted_mask m v = ap (λ d. eqb d 1) (sym (and_mask (m / 2 ^ v) 1))

pub within_mask : (a b : ℕ) → ((v : ℕ) → has a v ≡ true → has b v ≡ true) → eqb (bit_and a b) a ≡ true
within_mask a b inside =
    eq-eqb _ _ (ext _ _ (λ v. has-and a b v ∙ ⊎_elim
    (λ there. and_from _ _ there (inside v there) ∙ sym there)
    (λ missing. and_left _ _ missing ∙ sym missing)
    (cases_Bool (has a v))))

pub least_mask : (s : ValueSet) → (NoMember s → false ≡ true) → s.mask < 2 ^ 32
    → (count_trailing_zeros 32 s.mask < 32) × Least (member s) (count_trailing_zeros 32 s.mask)
least_mask s some fits =
    let pos : 0 < s.mask = ⊎_elim (λ none. absurd (false≢true (some (λ v. ap (λ m. has m v) none ∙ has_none v)))) (λ lt. lt) (eq-zero-or-pos s.mask) in
    let least = least_trailing 32 s.mask pos fits in
    (has_below 32 s.mask _ fits least.there, least)

pub ruleset mask_steps = (has-and, has-or, has_none, difference_mask, single_mask, first_mask, all_mask, past_mask, ones_mask, empty_mask, shifted_mask, within_mask, least_mask, nat_tests)
