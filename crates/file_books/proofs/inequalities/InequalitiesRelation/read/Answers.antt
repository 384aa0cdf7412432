use Rattle.std.proofs.Common.{◌<◌, ◌≤◌, sym, ◌∙◌, arith, rules}
use Rattle.std.proofs.lemmas.Bool.{true≢false}
use Rattle.std.specs.List.{count_by}
use Rattle.std.specs.Option.{is_none}
use Rattle.record_file.specs.Layout.{whole_records, HasLetter, l_letter}
use Rattle.file_books.specs.Inequalities.{RuleOf}
use Rattle.file_books.proofs.SoundFiles.{inequality_room}
use Rattle.file_books.proofs.RulesKept.{rules_none, rules_kept, rules_added, has_room}
use Rattle.file_books.proofs.inequalities.InequalitiesRelation.read.Goals as goal
use Rattle.file_books.proofs.inequalities.InequalitiesRelation.read.Goals.{in-Some+else-not-add, in_default}

pub loop-number-init : goal.loop-number-init
loop-number-init c = λ _. rules_none c.args.file.now

pub loop-number-preserved : goal.loop-number-preserved
loop-number-preserved c = λ sound.
    let file = c.args.file.now in
    let k = c.loop-number.number in
    let there : k < whole_records file = c.loop-number-test.true in
    let before = c.loop-number.invariant sound in
    elim c.match-and_then.branch [
      | in-Some+else-not-add w ↦
          let rule : RuleOf file k w.in-Some.rule = search rules in
          let some : 1 ≤ count_by is_none c.loop-number.inequalities.rules = omega (arith, before.free, inequality_room sound k there rule.letter) in
          rw w.inequalities-is (rules_added file k _ before _ _ rule some w.add.ensures.adds)
      | in_default w ↦
          let other : HasLetter file k l_letter → ⊥ = search rules in
          rw w.inequalities-is (rules_kept file k _ before other)
    ]

-- there is a place for each rule of a file that the check accepts
pub returns-then-not-add : goal.returns-then-not-add
returns-then-not-add c = λ sound.
    let file = c.args.file.now in
    let k = c.loop-number.number in
    let rule : RuleOf file k c.in-Some.rule = search rules in
    let some : 1 ≤ count_by is_none c.loop-number.inequalities.rules = omega (arith, (c.loop-number.invariant sound).free, inequality_room sound k c.loop-number-test.true rule.letter) in
    absurd (true≢false (sym (c.add.ensures.room ∙ has_room _ some) ∙ c.if-not-add.true))
