use Rattle.std.proofs.Common.{◌≡◌, ◌+◌, ◌<◌, Decides, sym, ap, ◌∙◌, subst, arith, rules}
use Rattle.value_set.specs.Blocks.{side_of}
use Rattle.value_set.specs.Members.{member}
use Rattle.value_set.proofs.Blocks.{no_block_empty}
use Rattle.record_file.specs.Layout.{count_before, o_letter, HasLetter, whole_records, SomeBefore}
use Rattle.record_file.proofs.Counting.{count_before_none, count_before_in, count_before_out, count_before-le, decides_none}
use Rattle.record_file.proofs.SoundRecords.{few_values}
use Rattle.file_books.proofs.SoundFiles.{sound_record, few_options, some_option, option_small}
use Rattle.file_books.proofs.GivenValues.{GivesValue, values_kept, values_added, decides_known}
use Rattle.file_books.specs.Domains.{Given}
use Rattle.file_books.proofs.domains.Domains.read.Goals as goal
use Rattle.file_books.proofs.domains.Domains.read.Goals.{in-Some, in_default}

pub loop-number-init : goal.loop-number-init
loop-number-init c = (
  sym (count_before_none c.args.file.now o_letter),
  λ i v. decides_none (GivesValue c.args.file.now i v) _ (no_block_empty i v),
)

pub overflow_add-count : goal.overflow_add-count
overflow_add-count c = omega (arith, c.loop-number.invariant.0, count_before-le c.args.file.now o_letter c.loop-number.number)

pub loop-number-preserved : goal.loop-number-preserved
loop-number-preserved c =
    let file = c.args.file.now in
    let k = c.loop-number.number in
    let there : k < whole_records file = c.loop-number-test.true in
    elim c.match-and_then.branch [
      | in-Some w ↦
          let given : Given file k (w.in-Some.option, w.in-Some.values) = search rules in
          rw (w.count-is, w.sets-is) (
            ap (λ n. n + 1) c.loop-number.invariant.0 ∙ sym (count_before_in file o_letter k given.0),
            values_added file k _ c.loop-number.invariant.1 _ _ given (option_small c.requires k there given.0) (few_values there (sound_record c.requires k) given.0) w.with_values-sets.ensures,
          )
      | in_default w ↦
          let other : HasLetter file k o_letter → ⊥ = search rules in
          rw (w.count-is, w.sets-is) (
            c.loop-number.invariant.0 ∙ sym (count_before_out file o_letter k other),
            values_kept file k _ c.loop-number.invariant.1 other,
          )
    ]

pub invariant_of-result : goal.invariant_of-result
invariant_of-result c =
    let file = c.args.file.now in
    let end : c.loop-number.number ≡ whole_records file = omega arith in
    let all = c.loop-number.invariant.0 ∙ ap (count_before file o_letter) end in
    record {
      some = omega (arith, all, some_option c.requires);
      few = omega (arith, all, few_options c.requires (whole_records file) (omega arith));
    }

pub returns : goal.returns
returns c =
    let file = c.args.file.now in
    let end : c.loop-number.number ≡ whole_records file = omega arith in
    record {
      count = c.loop-number.invariant.0 ∙ ap (count_before file o_letter) end;
      sets = λ i v. decides_known file _ i v _ (subst (λ k. Decides (member (side_of c.loop-number.sets i) v) (SomeBefore k (GivesValue file i v))) end (c.loop-number.invariant.1 i v));
    }
