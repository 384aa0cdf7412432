use Rattle.std.proofs.Common.{◌≡◌, ℕ, false, [], replicate, sym, refl, ◌∙◌}
use Rattle.value_set.specs.Blocks.{no_values}
use Rattle.value_set.specs.Members.{member}
use Rattle.value_set.proofs.Bits.{has_none}
use Rattle.value_set.proofs.Blocks.{holds_throughout}
use Rattle.record_file.specs.Layout.{o_letter, l_letter}
use Rattle.record_file.specs.Tallies.{has_in, is_row, is_price}
use Rattle.record_file.proofs.Counting.{count_before_none}
use Rattle.record_file.proofs.GivenCounts.{values_none}
use Rattle.record_file.proofs.Marking.{some_before_none}
use Rattle.record_file.proofs.tally.Tally.new.Goals as goal

none_in : (o v : ℕ) → has_in (replicate 12 no_values) o v ≡ false
none_in o v = holds_throughout (λ s. member s v ≡ false) 12 no_values no_values o (has_none v) (has_none v)

pub returns : goal.returns
returns c file = record {
  options = sym (count_before_none file o_letter);
  counts = λ o. holds_throughout (λ n. n ≡ 0) 12 0 0 o refl refl ∙ sym (values_none file o);
  rows = λ o v p.
      holds_throughout (λ sets. has_in sets o v ≡ false) 12 (replicate 12 no_values) [] p (none_in o v) (has_none v)
      ∙ sym (some_before_none (is_row file o v p));
  prices = λ o v. none_in o v ∙ sym (some_before_none (is_price file o v));
  inequalities = sym (count_before_none file l_letter);
}
