-- The sentence that explains each fault. Assumes nothing.
use Rattle.std.specs.Prelude.{ℕ, cond, List, codes, ◌==◌}
use Rattle.record_file.specs.declared.fault.Rule.{Rule}
use Rattle.record_file.specs.declared.fault.Rule.TheVariants.{TooLong, PartialRecord, NoRecord, UnknownLetter}
use Rattle.record_file.specs.declared.fault.Rule.TheVariants.{MisplacedOption, ValueCount, UnknownReference}
use Rattle.record_file.specs.declared.fault.Rule.TheVariants.{MaskBeyondValues, ReservedByte, Duplicate}
use Rattle.record_file.specs.declared.fault.Rule.TheVariants.{TooManyInequalities}

-- what a record names and no O record before it gives, by the byte that names it
abbrev pub unknown_at : ℕ → List ℕ
unknown_at b =
    cond (b == 1) (codes "The option at byte 1 is given by no O record before it.")
    (cond (b == 2) (codes "The value at byte 2 is not a value of the option at byte 1.")
    (cond (b == 3) (codes "The option at byte 3 is given by no O record before it, or is not above that at byte 1.")
    (codes "The record names an option or a value that no O record before it gives.")))

-- why a file is refused, by the rule that it breaks and the byte that breaks it
abbrev pub explained : Rule → ℕ → List ℕ
explained TooLong b = codes "The file is longer than 40,960 bytes."
explained PartialRecord b = codes "The file ends in the middle of a record: its length is not a multiple of 16."
explained NoRecord b = codes "The file has no record."
explained UnknownLetter b = codes "The record's letter is none of O, R, L and P."
explained MisplacedOption b =
    codes "The O record follows another kind, or its number is not the next one, or there are twelve options already."
explained ValueCount b = codes "The O record gives its option no value, or more than 32."
explained UnknownReference b = unknown_at b
explained MaskBeyondValues b = codes "The mask at byte 4 has a value that the option at byte 3 lacks."
explained ReservedByte b = codes "A byte of the record that must be zero is not."
explained Duplicate b =
    codes "It is a second R record for the same two options and value, or a second P record for the same value."
explained TooManyInequalities b = codes "It is the seventeenth L record, and a file may have sixteen at most."
