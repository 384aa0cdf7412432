use Rattle.std.proofs.Common.{append_assoc, rules}
use Rattle.book_report.proofs.lines.pair_line.Goals as goal

pub returns : goal.returns
returns c = search (rules, append_assoc)
