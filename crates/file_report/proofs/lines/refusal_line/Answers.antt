use Rattle.std.proofs.Common.{◌≡◌, IfOk, string_bytes, subst, append_assoc, rules}
use Rattle.file_report.specs.Lines.{refusal_words}
use Rattle.file_report.proofs.lines.refusal_line.Goals as goal

pub returns : goal.returns
returns c =
    let fault = c.args.fault.now in
    subst (λ rule. IfOk c.format.result (λ s. string_bytes s ≡ refusal_words rule fault.record fault.byte))
    c.number-number.ensures (search (rules, append_assoc))
