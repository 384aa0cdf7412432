-- How many values a set has. Assumes nothing.
use Rattle.std.proofs.Common.{◌≡◌, ℕ, ◌+◌, ◌<◌, ◌≤◌, true, not, ◌&&◌, eqb, length, ap, ◌∙◌, false, ◌||◌, sym}
use Rattle.value_set.specs.declared.set.ValueSet.{ValueSet}
use Rattle.value_set.specs.Members.{member, size, list_below, NoMember, Within, Without}
use Rattle.value_set.proofs.Counts.{count_le, count_same, count_mono, count_none, count_without, count_or, none_count, count_single}
use Rattle.value_set.proofs.Lists.{length_list}
use Rattle.std.proofs.lemmas.Bool.{ne_eqb, true≢false}

pub size-le : (s : ValueSet) → size s ≤ 32
size-le s = count_le 32 (member s)

-- a set is empty exactly if it has 0 values
pub size_none : (s : ValueSet) → NoMember s → size s ≡ 0
size_none s none = count_none 32 (member s) (λ v _. none v)

-- and the other way round; no function needs it yet
pub none_size : (s : ValueSet) → size s ≡ 0 → (v : ℕ) → v < 32 → member s v ≡ false
none_size s = none_count 32 (member s)

-- a subset has no more values; no function needs it yet
pub size_within : (s t : ValueSet) → Within s t → size s ≤ size t
size_within s t within = count_mono 32 (member s) (member t) (λ v _. within v)

-- the union u of disjoint sets s and t; no function needs it yet
pub size_union : (s t u : ValueSet) → ((v : ℕ) → member u v ≡ (member s v || member t v))
    → ((v : ℕ) → member s v ≡ true → member t v ≡ false) → size u ≡ size s + size t
size_union s t u union apart =
    count_same 32 (member u) (λ v. member s v || member t v) (λ v _. union v) ∙ count_or 32 (member s) (member t) (λ v _. apart v)

-- the set t is the set s without its value k
pub size-without : (s t : ValueSet) (k : ℕ) → k < 32 → member s k ≡ true → Without s k t → size t + 1 ≡ size s
size-without s t k lt there without =
    ap (λ n. n + 1) (count_same 32 (member t) (λ v. member s v && not (eqb v k)) (λ v _. without v)) ∙ count_without 32 (member s) k lt there

-- the set t is the set s with the value k added; no function needs it yet
pub size_with : (s t : ValueSet) (k : ℕ) → k < 32 → member s k ≡ false → ((v : ℕ) → member t v ≡ (member s v || eqb v k)) → size t ≡ size s + 1
size_with s t k lt missing with-k =
    count_same 32 (member t) (λ v. member s v || eqb v k) (λ v _. with-k v)
    ∙ count_or 32 (member s) (λ v. eqb v k) (λ v _ there. ne_eqb v k (λ e. true≢false (sym there ∙ ap (member s) e ∙ missing)))
    ∙ ap (λ n. size s + n) (count_single 32 k lt)

-- the values in ascending order
pub size_list : (s : ValueSet) → length (list_below 32 (member s)) ≡ size s
size_list s = length_list 32 (member s)
