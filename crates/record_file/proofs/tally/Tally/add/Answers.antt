use Rattle.std.proofs.Common.{◌≡◌, ◌+◌, Bool, sym, ◌∙◌, subst, inl, inr, ⊎_elim, arith}
use Rattle.record_file.specs.Layout.{o_letter, l_letter}
use Rattle.record_file.specs.Reading.{Shows}
use Rattle.record_file.specs.Tallies.{has_in, price_before}
use Rattle.record_file.proofs.Counting.{count_before_in, count_before-le}
use Rattle.record_file.proofs.GivenCounts.{values_added}
use Rattle.record_file.proofs.OneMore.{options_kept, counts_kept, rows_kept, prices_kept, inequalities_kept, row_added, price_added}
use Rattle.record_file.proofs.OptionRecords.{named_option, named_value, named_other, own_option}
use Rattle.record_file.proofs.SoundRecords.{letter_known}
use Rattle.record_file.proofs.tally.Tally.add.Goals as goal

pub add_row-requires : goal.add_row-requires
add_row-requires c =
    let shown = subst (Shows c.args.file.now c.args.number) c.in-Row.is c.in-Some.ensures.reads.1 in
    let here = c.requires.sound c.args.number (omega arith) in
    let option = named_option (omega (arith, c.requires.there)) (λ j lt. c.requires.sound j (omega arith)) c.requires.there here (inl shown.0) in
    let value = named_value (omega (arith, c.requires.there)) (λ j lt. c.requires.sound j (omega arith)) c.requires.there here (inl shown.0) in
    let other = named_other (omega (arith, c.requires.there)) (λ j lt. c.requires.sound j (omega arith)) c.requires.there here (inl shown.0) in
    record { option = omega (arith, shown.1, option); value = omega (arith, shown.2, value); other = omega (arith, shown.3, other) }

pub overflow_add-self : goal.overflow_add-self
overflow_add-self c = omega (arith, c.requires.before.options, count_before-le c.args.file.now o_letter c.args.number, c.ranges.number)

pub overflow_add-self-in-Inequality : goal.overflow_add-self-in-Inequality
overflow_add-self-in-Inequality c = omega (arith, c.requires.before.inequalities, count_before-le c.args.file.now l_letter c.args.number, c.ranges.number)

pub bounds-self-from : goal.bounds-self-from
bounds-self-from c =
    let shown = subst (Shows c.args.file.now c.args.number) c.in-Domain.is c.in-Some.ensures.reads.1 in
    let own = own_option c.requires.there c.requires.sound shown.0 in
    omega (arith, c.from.ensures, shown.1, own.0, own.1)

pub add_value-requires : goal.add_value-requires
add_value-requires c =
    let shown = subst (Shows c.args.file.now c.args.number) c.in-Price.is c.in-Some.ensures.reads.1 in
    let here = c.requires.sound c.args.number (omega arith) in
    let option = named_option (omega (arith, c.requires.there)) (λ j lt. c.requires.sound j (omega arith)) c.requires.there here (inr (inr shown.0)) in
    let value = named_value (omega (arith, c.requires.there)) (λ j lt. c.requires.sound j (omega arith)) c.requires.there here (inr shown.0) in
    record { option = omega (arith, shown.1, option); value = omega (arith, shown.2, value) }

pub returns-in-Domain : goal.returns-in-Domain
returns-in-Domain c =
    let shown = subst (Shows c.args.file.now c.args.number) c.in-Domain.is c.in-Some.ensures.reads.1 in
    let before = c.requires.before in
    let own = own_option c.requires.there c.requires.sound shown.0 in
    record {
      options = omega (arith, before.options, count_before_in c.args.file.now o_letter c.args.number shown.0);
      counts =
          values_added c.args.file.now c.args.number _ _ _ shown.0 (c.from.ensures ∙ shown.1 ∙ own.0) shown.2 (omega (arith, own.1)) before.counts;
      rows = rows_kept _ _ before (λ e. omega (arith, shown.0));
      prices = prices_kept _ _ before (λ e. omega (arith, shown.0));
      inequalities = inequalities_kept _ _ before (λ e. omega (arith, shown.0));
    }

pub returns-in-Row : goal.returns-in-Row
returns-in-Row c =
    let shown = subst (Shows c.args.file.now c.args.number) c.in-Row.is c.in-Some.ensures.reads.1 in
    let before = c.requires.before in
    let added = c.add_row.ensures in
    record {
      options = added.options ∙ options_kept _ _ before (λ e. omega (arith, shown.0));
      counts = λ o. rw added.counts (counts_kept _ _ before (λ e. omega (arith, shown.0)) o);
      rows = λ o v p. added.rows o v p ∙ row_added _ _ before _ _ _ shown.0 shown.1 shown.2 shown.3 o v p;
      prices = λ o v. subst (λ sets. ◌≡◌ {A = Bool} (has_in sets o v) (price_before c.args.file.now (c.args.number + 1) o v)) (sym added.prices) (prices_kept _ _ before (λ e. omega (arith, shown.0)) o v);
      inequalities = added.inequalities ∙ inequalities_kept _ _ before (λ e. omega (arith, shown.0));
    }

pub returns-in-Inequality : goal.returns-in-Inequality
returns-in-Inequality c =
    let shown = subst (Shows c.args.file.now c.args.number) c.in-Inequality.is c.in-Some.ensures.reads.1 in
    let before = c.requires.before in
    record {
      options = options_kept _ _ before (λ e. omega (arith, shown.0));
      counts = counts_kept _ _ before (λ e. omega (arith, shown.0));
      rows = rows_kept _ _ before (λ e. omega (arith, shown.0));
      prices = prices_kept _ _ before (λ e. omega (arith, shown.0));
      inequalities = omega (arith, before.inequalities, count_before_in c.args.file.now l_letter c.args.number shown.0);
    }

pub returns-in-Price : goal.returns-in-Price
returns-in-Price c =
    let shown = subst (Shows c.args.file.now c.args.number) c.in-Price.is c.in-Some.ensures.reads.1 in
    let before = c.requires.before in
    record {
      options = options_kept _ _ before (λ e. omega (arith, shown.0));
      counts = counts_kept _ _ before (λ e. omega (arith, shown.0));
      rows = rows_kept _ _ before (λ e. omega (arith, shown.0));
      prices = λ o v. c.add_value.ensures o v ∙ price_added _ _ before _ _ shown.0 shown.1 shown.2 o v;
      inequalities = inequalities_kept _ _ before (λ e. omega (arith, shown.0));
    }

pub returns-in_default : goal.returns-in_default
returns-in_default c =
    let here = c.requires.sound c.args.number (omega arith) in
    ⊎_elim (λ past. absurd (omega (arith, c.requires.there))) (λ unknown. absurd (letter_known c.requires.there here unknown)) c.in_default.ensures.reads
