-- The bits of a mask as membership: what the operations on masks do to `has`. Assumes nothing.
use Rattle.std.proofs.Common.{◌≡◌, ℕ, zero, suc, ◌+◌, ◌-◌, ◌/◌, ◌%◌, ◌^◌, ◌<◌, ◌≤◌, Bool, true, false, cond, not, ◌&&◌, ◌||◌, eqb, ltb, sym, refl, ap, ◌∙◌, ap₂, ⊎_elim, pow-suc, arith}
use lib.Dec.{leb-suc-suc}
use lib.Bits.{bit_and, bit_or, and_shr, and_mod, or_shr, or_mod, or_shifted_r, or_zero_r}
use Rattle.std.proofs.lemmas.Nat.{pow_pos, shr-shr}
use Rattle.std.proofs.lemmas.Bool.{cases_eq, cases_lt, lt-ltb, le-ltb, and_right, true≢false, cases_Bool, eq-eqb, ne_eqb, and_from, and_left, not_from_false, not_from_true, false≢true}
use Rattle.std.proofs.lemmas.Bool.Decides.{nat_tests}
use Rattle.value_set.specs.declared.set.ValueSet.{ValueSet}
use Rattle.value_set.specs.Members.{has, member, mask_below}

-- ---- bit by bit, lowest first

pub has-zero : (m : ℕ) → has m zero ≡ eqb (m % 2) 1
unfolding has
has-zero m = ap (λ q. eqb (q % 2) 1) (omega arith)

pub has-suc : (m v : ℕ) → has m (suc v) ≡ has (m / 2) v
unfolding has
has-suc m v = ap (λ q. eqb (q % 2) 1) (ap (λ k. m / 2 ^ k) (omega arith) ∙ sym (shr-shr m 1 v))

-- the empty set
pub has_none : (v : ℕ) → has 0 v ≡ false
has_none zero = has-zero 0
has_none (suc v) = has-suc 0 v ∙ has_none v

-- a mask of n bits has no value from n on
pub has_above : (n m v : ℕ) → m < 2 ^ n → n ≤ v → has m v ≡ false
has_above zero m v h le = ap (λ k. has k v) (omega arith) ∙ has_none v
has_above (suc n) m zero h le = absurd (omega arith)
has_above (suc n) m (suc v) h le = has-suc m v ∙ has_above n (m / 2) v (omega (arith, pow-suc 2 n)) (omega arith)

pub has_below : (n m v : ℕ) → m < 2 ^ n → has m v ≡ true → v < n
has_below n m v h there =
    ⊎_elim (λ lt. lt) (λ le. absurd (true≢false (sym there ∙ has_above n m v h le))) (cases_lt v n)

-- ---- the operations

digit_and : (x y : ℕ) → x < 2 → y < 2 → eqb (bit_and x y) 1 ≡ (eqb x 1 && eqb y 1)
digit_and zero y p q = refl
digit_and (suc zero) zero p q = refl
digit_and (suc zero) (suc zero) p q = refl
digit_and (suc zero) (suc (suc y)) p q = absurd (omega arith)
digit_and (suc (suc x)) y p q = absurd (omega arith)

digit_or : (x y : ℕ) → x < 2 → y < 2 → eqb (bit_or x y) 1 ≡ (eqb x 1 || eqb y 1)
digit_or zero y p q = refl
digit_or (suc zero) zero p q = refl
digit_or (suc zero) (suc zero) p q = refl
digit_or (suc zero) (suc (suc y)) p q = absurd (omega arith)
digit_or (suc (suc x)) y p q = absurd (omega arith)

-- the common part
pub has-and : (a b v : ℕ) → has (bit_and a b) v ≡ (has a v && has b v)
unfolding has
has-and a b v =
    ap (λ q. eqb (q % 2) 1) (and_shr a b v) ∙ ap (λ d. eqb d 1) (and_mod (a / 2 ^ v) (b / 2 ^ v) 1)
    ∙ digit_and (a / 2 ^ v % 2) (b / 2 ^ v % 2) (omega arith) (omega arith)

-- the union
pub has-or : (a b v : ℕ) → has (bit_or a b) v ≡ (has a v || has b v)
unfolding has
has-or a b v =
    ap (λ q. eqb (q % 2) 1) (or_shr a b v) ∙ ap (λ d. eqb d 1) (or_mod (a / 2 ^ v) (b / 2 ^ v) 1)
    ∙ digit_or (a / 2 ^ v % 2) (b / 2 ^ v % 2) (omega arith) (omega arith)

-- the values below n that a lacks
pub has_complement : (n a v : ℕ) → a < 2 ^ n → v < n → has (2 ^ n - 1 - a) v ≡ not (has a v)
has_complement zero a v h lt = absurd (omega arith)
has_complement (suc n) a zero h lt =
    let odd : (2 ^ suc n - 1 - a) % 2 ≡ 1 - a % 2 = omega (arith, pow-suc 2 n) in
    has-zero (2 ^ suc n - 1 - a) ∙ ap (λ d. eqb d 1) odd ∙ grind (arith, nat_tests) ∙ ap not (sym (has-zero a))
has_complement (suc n) a (suc v) h lt =
    let half : (2 ^ suc n - 1 - a) / 2 ≡ 2 ^ n - 1 - a / 2 = omega (arith, pow-suc 2 n) in
    has-suc (2 ^ suc n - 1 - a) v ∙ ap (λ m. has m v) half
    ∙ has_complement n (a / 2) v (omega (arith, pow-suc 2 n)) (omega arith) ∙ ap not (sym (has-suc a v))

-- the first c values
pub has_first : (c v : ℕ) → has (2 ^ c - 1) v ≡ ltb v c
has_first zero v = has_none v ∙ sym (le-ltb v 0 (omega arith))
has_first (suc c) zero =
    let odd : (2 ^ suc c - 1) % 2 ≡ 1 = omega (arith, pow-suc 2 c, pow_pos c) in
    has-zero (2 ^ suc c - 1) ∙ ap (λ d. eqb d 1) odd ∙ sym (lt-ltb 0 (suc c) (omega arith))
has_first (suc c) (suc v) =
    let half : (2 ^ suc c - 1) / 2 ≡ 2 ^ c - 1 = omega (arith, pow-suc 2 c, pow_pos c) in
    has-suc (2 ^ suc c - 1) v ∙ ap (λ m. has m v) half ∙ has_first c v ∙ sym (leb-suc-suc (suc v) c)

-- one value alone
pub has_single : (k v : ℕ) → has (2 ^ k) v ≡ eqb v k
has_single zero zero = has-zero 1
has_single zero (suc v) = has-suc 1 v ∙ has_none v ∙ grind (arith, nat_tests)
has_single (suc k) zero =
    let even : 2 ^ suc k % 2 ≡ 0 = omega (arith, pow-suc 2 k) in
    has-zero (2 ^ suc k) ∙ ap (λ d. eqb d 1) even ∙ grind (arith, nat_tests)
has_single (suc k) (suc v) =
    let half : 2 ^ suc k / 2 ≡ 2 ^ k = omega (arith, pow-suc 2 k) in
    has-suc (2 ^ suc k) v ∙ ap (λ m. has m v) half ∙ has_single k v ∙ grind (arith, nat_tests)

-- a mask of n bits without the values of another
pub has_clear : (n m a v : ℕ) → m < 2 ^ n → a < 2 ^ n → has (bit_and m (2 ^ n - 1 - a)) v ≡ (has m v && not (has a v))
has_clear n m a v hm ha =
    has-and m (2 ^ n - 1 - a) v ∙ ⊎_elim
    (λ lt. ap (λ b. has m v && b) (has_complement n a v ha lt))
    (λ le. rw (has_above n m v hm le))
    (cases_lt v n)

-- ---- sets with the same values have the same mask

pub same_mask : (n a b : ℕ) → a < 2 ^ n → b < 2 ^ n → ((v : ℕ) → v < n → has a v ≡ has b v) → a ≡ b
same_mask zero a b ha hb same = omega arith
same_mask (suc n) a b ha hb same =
    let low : eqb (a % 2) 1 ≡ eqb (b % 2) 1 = sym (has-zero a) ∙ same 0 (omega arith) ∙ has-zero b in
    let odd : a % 2 ≡ b % 2 = grind (arith, nat_tests) in
    let rest : (v : ℕ) → v < n → has (a / 2) v ≡ has (b / 2) v = λ v lt. sym (has-suc a v) ∙ same (suc v) (omega arith) ∙ has-suc b v in
    let half = same_mask n (a / 2) (b / 2) (omega (arith, pow-suc 2 n)) (omega (arith, pow-suc 2 n)) rest in
    omega arith

-- a number has no more bits than its value
pub lt-pow : (n : ℕ) → n < 2 ^ n
lt-pow zero = omega arith
lt-pow (suc n) = omega (arith, pow-suc 2 n, lt-pow n)

-- masks of any length
pub ext : (a b : ℕ) → ((v : ℕ) → has a v ≡ has b v) → a ≡ b
ext a b same = same_mask (a + b) a b (omega (arith, lt-pow (a + b))) (omega (arith, lt-pow (a + b))) (λ v _. same v)

-- and so for sets; no function needs it yet
pub same_set : (s t : ValueSet) → ((v : ℕ) → member s v ≡ member t v) → s ≡ t
same_set s t same = ap (λ m. record { mask = m }) (ext s.mask t.mask same)

-- a set without values has the mask 0
pub none_zero : (m : ℕ) → ((v : ℕ) → has m v ≡ false) → m ≡ 0
none_zero m none = ext m 0 (λ v. none v ∙ sym (has_none v))

-- a set meets the set of k alone exactly if it has k; no function needs it yet
pub meets_single : (n m b k : ℕ) → m < 2 ^ n → ((v : ℕ) → has b v ≡ (eqb v k && ltb v n)) → not (eqb (bit_and m b) 0) ≡ has m k
meets_single n m b k fits single = ⊎_elim there missing (cases_Bool (has m k))
  where
    there : has m k ≡ true → not (eqb (bit_and m b) 0) ≡ has m k
    there e =
        let below = has_below n m k fits e in
        let alone : has b k ≡ true = single k ∙ and_from _ _ (eq-eqb k k refl) (lt-ltb k n below) in
        let both : has (bit_and m b) k ≡ true = has-and m b k ∙ and_from _ _ e alone in
        not_from_false _ (ne_eqb (bit_and m b) 0 (λ z. false≢true (sym (ap (λ a. has a k) z ∙ has_none k) ∙ both))) ∙ sym e

    none : has m k ≡ false → (v : ℕ) → has (bit_and m b) v ≡ false
    none e v =
        has-and m b v ∙ ap (λ t. has m v && t) (single v) ∙ ⊎_elim
        (λ same. and_left _ _ (ap (has m) same ∙ e))
        (λ other. and_right _ _ (and_left _ _ (ne_eqb v k other)))
        (cases_eq v k)

    missing : has m k ≡ false → not (eqb (bit_and m b) 0) ≡ has m k
    missing e = not_from_true _ (eq-eqb (bit_and m b) 0 (none_zero (bit_and m b) (none e))) ∙ sym e

-- ---- the mask of a test

pub and_yes : (a b : Bool) → b ≡ true → (a && b) ≡ a
and_yes true b h = h
and_yes false b h = refl

mask_at : (n v : ℕ) (b : Bool) → has (cond b (2 ^ n) 0) v ≡ (b && eqb v n)
mask_at n v true = has_single n v
mask_at n v false = has_none v

-- one bit more on top
mask_top : (n : ℕ) (p : ℕ → Bool) → mask_below n p < 2 ^ n → mask_below (suc n) p ≡ bit_or (mask_below n p) (cond (p n) (2 ^ n) 0)
unfolding mask_below
mask_top n p fits = top (p n)
  where
    top : (b : Bool) → mask_below n p + cond b (2 ^ n) 0 ≡ bit_or (mask_below n p) (cond b (2 ^ n) 0)
    top true = sym (ap (bit_or (mask_below n p)) (omega arith) ∙ or_shifted_r 1 n (mask_below n p) fits ∙ omega arith)
    top false = omega arith ∙ sym (or_zero_r (mask_below n p))

pub mask_lt : (n : ℕ) (p : ℕ → Bool) → mask_below n p < 2 ^ n
unfolding mask_below
mask_lt zero p = omega arith
mask_lt (suc n) p = omega (arith, mask_lt n p, pow-suc 2 n, part (p n))
  where
    part : (b : Bool) → cond b (2 ^ n) 0 ≤ 2 ^ n
    part true = omega arith
    part false = omega arith

-- what `mask_below` means; no function needs it yet
pub has_mask : (n : ℕ) (p : ℕ → Bool) (v : ℕ) → has (mask_below n p) v ≡ (p v && ltb v n)
unfolding mask_below
has_mask zero p v = has_none v ∙ sym (and_right (p v) _ (le-ltb v 0 (omega arith)))
has_mask (suc n) p v =
    ap (λ m. has m v) (mask_top n p (mask_lt n p)) ∙ has-or (mask_below n p) (cond (p n) (2 ^ n) 0) v
    ∙ ap₂ ◌||◌ (has_mask n p v) (mask_at n v (p n))
    ∙ ⊎_elim (λ same. let at = ap p same in grind (arith, nat_tests)) (λ other. grind (arith, nat_tests)) (cases_eq v n)

-- below the bound; no function needs it yet
pub has-mask_below : (n : ℕ) (p : ℕ → Bool) (v : ℕ) → v < n → has (mask_below n p) v ≡ p v
has-mask_below n p v lt = has_mask n p v ∙ and_yes (p v) _ (lt-ltb v n lt)
