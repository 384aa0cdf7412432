use Rattle.std.proofs.Common.{◌≡◌, ℕ, ◌-◌, ◌^◌, ◌<◌, not, ◌&&◌, ltb, ap, ◌∙◌, subst, arith}
use Rattle.std.proofs.lemmas.Bool.Decides.{nat_tests}
use Rattle.value_set.specs.Limits.{most_values}
use Rattle.value_set.specs.Members.{has, member}
use Rattle.value_set.proofs.Bits.{has_first}
use Rattle.record_file.specs.Layout.{word, word_in}
use Rattle.record_file.specs.Reading.{Shows}
use Rattle.record_file.proofs.Parts.{part-word}
use Rattle.file_books.proofs.Conflicting.{conflicts_added}
use Rattle.file_books.proofs.conflicts.Conflicts.add.Goals as goal

pub returns-in-Row : goal.returns-in-Row
returns-in-Row c = λ file k shows before.
    let shown = subst (Shows file k) c.in-Row.is shows in
    let mask : c.from_mask-allowed.result.mask ≡ word file k 4 =
    c.from_mask-allowed.ensures ∙ c.word_of.ensures ∙ ap word_in shown.4 ∙ part-word file k 4 4 (omega arith) in
    let clear : (b : ℕ) → b < most_values → member c.difference-forbidden.result b ≡ not (has (word file k 4) b) =
    λ b small. c.difference-forbidden.ensures b ∙ ap (λ m. has 4294967295 b && not (has m b)) mask ∙ (let all : has (2 ^ 32 - 1) b ≡ ltb b 32 = has_first 32 b in grind (arith, nat_tests)) in
    conflicts_added file k c.args.self.now before _ _ _ _ _ shown.0 (c.from.ensures ∙ shown.1) shown.2 (c.from-in-Row.ensures ∙ shown.3) clear c.forbid.ensures
