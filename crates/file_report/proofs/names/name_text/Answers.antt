use Rattle.std.proofs.Common.{◌≡◌, string_bytes, sym, ap, ◌∙◌, subst}
use Rattle.std.specs.List.{flat_map, AllByRecursion}
use Rattle.std.proofs.lemmas.List.{take_all}
use Rattle.file_report.specs.Names.{shown_byte, shown_name, Printable}
use Rattle.file_report.proofs.Printing.{shown-more, name_printable}
use Rattle.file_report.proofs.names.name_text.Goals as goal

pub loop-byte-preserved : goal.loop-byte-preserved
loop-byte-preserved c =
    shown-more c.without_padding-byte-items.result.now c.loop-byte.byte-index c.loop-byte-test.true
    c.loop-byte.invariant c.in_ok-push_shown.ensures

pub returns : goal.returns
returns c =
    let bytes = c.without_padding-byte-items.result.now in
    let all = take_all c.loop-byte.byte-index bytes c.loop-byte-test.false in
    let shown : string_bytes c.loop-byte.text ≡ shown_name c.args.name.now =
    c.loop-byte.invariant ∙ ap (flat_map shown_byte) (all ∙ c.without_padding-byte-items.ensures) in
    record { shown = shown; printable = subst (AllByRecursion Printable) (sym shown) (name_printable c.args.name.now) }
