use Rattle.std.proofs.Common.{⊎_elim, arith, rules}
use Rattle.record_file.specs.Layout.{o_letter, r_letter, l_letter, p_letter}
use Rattle.record_file.proofs.Counting.{count_before-le}
use Rattle.file_report.proofs.Counting.{none_yet, one_more, none_more}
use Rattle.file_report.proofs.counts.count_records.Goals as goal
use Rattle.file_report.proofs.counts.count_records.Goals.{in-Some-Domain, in-Some-Row, in-Some-Inequality}
use Rattle.file_report.proofs.counts.count_records.Goals.{in-Some-Price, in-None}

pub loop-number-init : goal.loop-number-init
loop-number-init c = none_yet c.args.file.now c.default-counts.result c.default-counts.ensures

-- so far a count is at most the number of records read
pub overflow_add-counts : goal.overflow_add-counts
overflow_add-counts c =
    omega (arith, c.loop-number.invariant.domains, count_before-le c.args.file.now o_letter c.loop-number.number)

pub overflow_add-counts-in-Some-Row : goal.overflow_add-counts-in-Some-Row
overflow_add-counts-in-Some-Row c =
    omega (arith, c.loop-number.invariant.rows, count_before-le c.args.file.now r_letter c.loop-number.number)

pub overflow_add-counts-in-Some-Inequality : goal.overflow_add-counts-in-Some-Inequality
overflow_add-counts-in-Some-Inequality c =
    omega (arith, c.loop-number.invariant.inequalities, count_before-le c.args.file.now l_letter c.loop-number.number)

pub overflow_add-counts-in-Some-Price : goal.overflow_add-counts-in-Some-Price
overflow_add-counts-in-Some-Price c =
    omega (arith, c.loop-number.invariant.prices, count_before-le c.args.file.now p_letter c.loop-number.number)

pub loop-number-preserved : goal.loop-number-preserved
loop-number-preserved c =
    let file = c.args.file.now in
    let k = c.loop-number.number in
    let old = c.loop-number.invariant in
    elim c.match-read.branch [
      | in-Some-Domain w ↦ one_more file k o_letter (search rules) w.counts-is old
      | in-Some-Row w ↦ one_more file k r_letter (search rules) w.counts-is old
      | in-Some-Inequality w ↦ one_more file k l_letter (search rules) w.counts-is old
      | in-Some-Price w ↦ one_more file k p_letter (search rules) w.counts-is old
      | in-None w ↦
          ⊎_elim (λ past. absurd (omega (arith, c.loop-number-test.true)))
          (λ other. none_more file k other w.counts-is old) w.in-None.ensures.reads
    ]
