-- What the table of conflicts has of the records before record k, and after one record more. Assumes nothing.
use Rattle.std.proofs.Common.{◌≡◌, ℕ, ◌+◌, ◌*◌, ◌<◌, ◌≤◌, true, false, not, ◌&&◌, ◌||◌, eqb, List, length, Decides, sym, ap, ◌∙◌, arith}
use Rattle.std.proofs.lemmas.List.{get_or_past}
use Rattle.std.proofs.lemmas.Bool.{not-true, not_from_false}
use Rattle.std.proofs.lemmas.Bool.Decides.{nat_tests, Decides-and, Decides-at}
use Rattle.value_set.specs.Blocks.{side_of}
use Rattle.value_set.proofs.Bits.{has_none}
use Rattle.value_set.specs.Limits.{most_options, most_values}
use Rattle.value_set.specs.Members.{has, member}
use Rattle.value_set.specs.declared.set.ValueSet.{ValueSet}
use Rattle.record_file.specs.Layout.{byte, word, HasLetter, r_letter}
use Rattle.record_file.proofs.Counting.{decides_one_more, decides_no_more}
use Rattle.record_file.proofs.OneMore.{decides_row}
use Rattle.file_books.specs.declared.conflicts.Conflicts.{Conflicts}
use Rattle.file_books.specs.Conflicts.{conflict, no_conflict, no_sides, ConflictsBefore, RowForbids}

-- past the last place nothing conflicts
pub no_conflict_past : (t : Conflicts) (i a j b : ℕ) → length t.blocks ≤ i * most_values + a → true ≡ no_conflict t i a j b
no_conflict_past t i a j b past =
    sym (ap (λ block. not (member (side_of block j) b)) (get_or_past t.blocks (i * most_values + a) no_sides past) ∙ ap not (has_none b))

module _ (file : List ℕ) (k : ℕ) (before : Conflicts) (h : ConflictsBefore file k before) where
  -- a record of another kind
  pub conflicts_kept : (HasLetter file k r_letter → ⊥) → ConflictsBefore file (k + 1) before
  conflicts_kept other i a j b small_i small_a small_j small_b =
      decides_no_more (λ l. RowForbids file l i a j b) k _ (h i a j b small_i small_a small_j small_b) (λ (row, _). other row.0)

  -- an R record
  pub conflicts_added : (after : Conflicts) (option value other : ℕ) (forbidden : ValueSet)
      → HasLetter file k r_letter → option ≡ byte file k 1 → value ≡ byte file k 2 → other ≡ byte file k 3
      → ((b : ℕ) → b < most_values → member forbidden b ≡ not (has (word file k 4) b))
      → ((i a j b : ℕ) → i < most_options → a < most_values → j < most_options
      → conflict after i a j b ≡ (conflict before i a j b || ((eqb i option && (eqb a value && eqb j other)) && member forbidden b)))
      → ConflictsBefore file (k + 1) after
  conflicts_added after option value other forbidden letter is-o is-v is-p clear more i a j b small_i small_a small_j small_b =
      let row = decides_row file k option value other letter is-o is-v is-p i a j in
      let bit : Decides (not (has (word file k 4) b)) (has (word file k 4) b ≡ false) = (not-true _, not_from_false _) in
      let same : conflict after i a j b ≡ (conflict before i a j b || ((eqb j other && (eqb i option && eqb a value)) && not (has (word file k 4) b))) =
      more i a j b small_i small_a small_j ∙ (let is = clear b small_b in grind (arith, nat_tests)) in
      Decides-at _ _ same
      (decides_one_more (λ l. RowForbids file l i a j b) k _ _ (h i a j b small_i small_a small_j small_b) (Decides-and _ _ row bit))
