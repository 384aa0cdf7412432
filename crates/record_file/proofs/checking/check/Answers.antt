use Rattle.std.proofs.Common.{arith}
use Rattle.std.proofs.lemmas.Result.{err_from_is_err_and}
use Rattle.record_file.proofs.FirstFaults.{one_first_fault, first_by_records}
use Rattle.record_file.proofs.checking.check.Goals as goal

pub returns-in_err-check_length-clause-only : goal.returns-in_err-check_length-clause-only
returns-in_err-check_length-clause-only c =
    let p = err_from_is_err_and c.from_residual.result c.from_residual.ensures.1 in
    rw (p.1, p.2) (λ g other. one_first_fault _ _ g c.in_err-check_length.ensures other)

pub loop-number-init : goal.loop-number-init
loop-number-init c = (c.new-tally.ensures c.args.file.now, λ k lt. absurd (omega arith))

pub returns-in_err-check-clause-names : goal.returns-in_err-check-clause-names
returns-in_err-check-clause-names c =
    let p = err_from_is_err_and c.from_residual-in_err-check.result c.from_residual-in_err-check.ensures.1 in
    rw (p.1, p.2)
    (first_by_records _ c.in_ok-check_length.ensures _ _ c.loop-number.invariant.1 c.in_err-check.ensures)

pub returns-in_err-check-clause-only : goal.returns-in_err-check-clause-only
returns-in_err-check-clause-only c =
    let told = first_by_records _ c.in_ok-check_length.ensures _ _ c.loop-number.invariant.1 c.in_err-check.ensures in
    let p = err_from_is_err_and c.from_residual-in_err-check.result c.from_residual-in_err-check.ensures.1 in
    rw (p.1, p.2) (λ g other. one_first_fault _ _ g told other)
