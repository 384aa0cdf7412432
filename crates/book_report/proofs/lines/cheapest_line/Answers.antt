use Rattle.std.proofs.Common.{◌≡◌, IfOk, string_bytes, sym, subst}
use Rattle.book_report.specs.Lines.{cheapest_text}
use Rattle.book_report.proofs.Printing.{found_joined}
use Rattle.book_report.proofs.lines.cheapest_line.Goals as goal

pub returns-in-Some : goal.returns-in-Some
returns-in-Some c =
    subst (λ cheapest. IfOk c.format.result (λ s. string_bytes s ≡ cheapest_text c.args.option cheapest)) (sym c.in-Some.is)
    (subst (λ text. IfOk c.format.result (λ s. string_bytes s ≡ text)) (found_joined _ _ _) c.format.ensures.ok)
