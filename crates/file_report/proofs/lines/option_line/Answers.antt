use Rattle.std.proofs.Common.{◌≡◌, ℕ, List, IfOk, string_bytes, subst, append_assoc, rules}
use Rattle.file_report.specs.Lines.{noun_of, option_words}
use Rattle.file_report.proofs.lines.option_line.Goals as goal

pub returns : goal.returns
returns c =
    let Writes : List ℕ → List ℕ → Type 0 = λ name values.
    IfOk c.format.result (λ s. string_bytes s ≡ option_words c.args.option name c.args.count values) in
    subst (λ name. Writes name (noun_of c.args.count)) c.in_ok-name.ensures.shown
    (subst (Writes (string_bytes c.in_ok-name.name)) c.noun-values.ensures (search (rules, append_assoc)))
