-- A book by the options and the relation that were read from a file. Assumes nothing.
use Rattle.std.proofs.Common.{◌≡◌, ℕ, ◌<◌, Bool, true, false, ◌&&◌, eqb, ltb, List, Decides, refl, arith, lt-ltb, ne_eqb}
use Rattle.std.proofs.lemmas.Bool.{and_parts}
use Rattle.std.proofs.lemmas.Bool.Decides.{Decides-and, Decides-at, Decides-like, Decides-ltb}
use Rattle.value_set.specs.Blocks.{side_of}
use Rattle.value_set.specs.Limits.{most_values}
use Rattle.value_set.specs.Members.{member}
use Rattle.record_file.specs.Faults.{Sound}
use Rattle.record_file.specs.Layout.{whole_records, count_before, o_letter}
use Rattle.file_books.specs.declared.domains.Domains.{Domains}
use Rattle.rule_book.specs.Books.{in_set, in_row}
use Rattle.file_books.specs.Domains.{HasValue}
use Rattle.file_books.specs.Files.{file_meaning, ReadOff}
use Rattle.file_books.specs.Relations.{Pairs, Forbidding, AllowsBy, Unforbidden}
use Rattle.file_books.proofs.SoundFiles.{few_options, value_counted}

-- three tests, of which the last is one only where the others say yes
decides_each : {P Q R : Type 0} (x y z : Bool) → Decides x P → Decides y Q → (P → Q → Decides z R) → Decides (x && (y && z)) (P × (Q × R))
decides_each x y z p q r = (
  λ all.
      let first = and_parts x (y && z) all in
      let rest = and_parts y z first.1 in
      (p.0 first.0, (q.0 rest.0, (r (p.0 first.0) (q.0 rest.0)).0 rest.1)),
  λ (here, (there, holds)). let e = p.1 here in let f = q.1 there in let h = (r here there).1 holds in rw (e, f, h) refl,
)

module _ (Forbids : Forbidding) {file : List ℕ} (sound : Sound file) (d : Domains) (allows : Pairs)
    (counted : d.count ≡ count_before file o_letter (whole_records file))
    (known : (i v : ℕ) → Decides (member (side_of d.sets i) v) (HasValue file i v))
    (related : AllowsBy Forbids file allows) where
  sets : (i v : ℕ) → Decides (in_set (file_meaning d allows) i v) (HasValue file i v)
  sets i v =
      Decides-like _
      (λ (_, (_, has)). has)
      (λ has. let at = value_counted sound i v has in (omega (arith, at.0), (at.1, has)))
      (Decides-and _ _ (Decides-ltb i d.count) (Decides-and _ _ (Decides-ltb v most_values) (known i v)))

  -- the relation is asked only for values that are there
  beside : (i a j b : ℕ) → HasValue file i a → HasValue file j b → Decides (allows i a j b) (Unforbidden Forbids file i a j b)
  beside i a j b here there =
      let few = few_options sound (whole_records file) (omega arith) in
      let at = value_counted sound i a here in
      let to = value_counted sound j b there in
      related i a j b (omega (arith, at.0)) at.1 (omega (arith, to.0)) to.1

  rows : (i a j b : ℕ) → i < j → Decides (in_row (file_meaning d allows) i a j b) (HasValue file i a × (HasValue file j b × Unforbidden Forbids file i a j b))
  rows i a j b lt =
      let apart : eqb i j ≡ false = ne_eqb i j (λ same. omega arith) in
      let below : ltb i j ≡ true = lt-ltb i j lt in
      Decides-at _ _ (rw (apart, below) refl) (decides_each _ _ _ (sets i a) (sets j b) (beside i a j b))

  pub read_off : ReadOff Forbids file (file_meaning d allows)
  read_off = record { options = counted; sets = sets; rows = rows }
