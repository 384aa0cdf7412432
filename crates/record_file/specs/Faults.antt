-- Which fault of a file is named: the first in the order in which faults are looked for. Assumes nothing.
use Rattle.std.specs.Prelude.{◌≡◌, ℕ, zero, suc, ◌<◌, ◌⊎◌, List, Option, MatchOption}
use Rattle.record_file.specs.declared.fault.Fault.{Fault}
use Rattle.record_file.specs.declared.fault.Layer.{Layer}
use Rattle.record_file.specs.declared.fault.Layer.TheVariants as layer
use Rattle.record_file.specs.declared.fault.Rule.{Rule}
use Rattle.record_file.specs.declared.fault.Rule.TheVariants.{TooLong, PartialRecord, NoRecord, UnknownLetter}
use Rattle.record_file.specs.declared.fault.Rule.TheVariants.{MisplacedOption, ValueCount, UnknownReference}
use Rattle.record_file.specs.declared.fault.Rule.TheVariants.{MaskBeyondValues, ReservedByte, Duplicate, TooManyInequalities}
use Rattle.record_file.specs.Layout.{whole_records, most_records}
use Rattle.record_file.specs.Rules.{IsTooLong, HasPartialRecord, HasNoRecord, HasUnknownLetter, IsMisplacedOption, HasWrongCount}
use Rattle.record_file.specs.Rules.{HasUnknownAt, HasMaskBeyondValues, HasNonzeroAt, Repeated, HasTooManyInequalities}

-- the number under which a broken rule is refused
abbrev pub number_of : Rule → ℕ
number_of TooLong = 1
number_of PartialRecord = 2
number_of NoRecord = 3
number_of UnknownLetter = 4
number_of MisplacedOption = 5
number_of ValueCount = 6
number_of UnknownReference = 7
number_of MaskBeyondValues = 8
number_of ReservedByte = 9
number_of Duplicate = 10
number_of TooManyInequalities = 11

-- what a rule is about: the file as a whole, one record by itself, or the book that the records make
abbrev pub layer_of : Rule → Layer
layer_of TooLong = layer.File
layer_of PartialRecord = layer.File
layer_of NoRecord = layer.File
layer_of UnknownLetter = layer.Record
layer_of MisplacedOption = layer.Record
layer_of ValueCount = layer.Record
layer_of UnknownReference = layer.Record
layer_of MaskBeyondValues = layer.Record
layer_of ReservedByte = layer.Record
layer_of Duplicate = layer.Book
layer_of TooManyInequalities = layer.Book

-- a fault of a rule, with the rule's layer
abbrev pub fault_at : Rule → ℕ → ℕ → Fault
fault_at rule k b = record { rule = rule; «record» = k; byte = b; layer = layer_of rule }

-- b is the first byte at which P holds
pub record FirstByte (P : ℕ → Type 0) (b : ℕ) : Type 0 where
  pub holds : P b
  pub first : (a : ℕ) → a < b → P a → ⊥

-- a rule on records is broken at record k, which is one of the file's whole records
pub record InRecord (file : List ℕ) (k : ℕ) (Broken : Type 0) : Type 0 where
  pub there : k < whole_records file
  pub broken : Broken

-- the file breaks the rule, and the fault names record k and byte b
abbrev pub Breaks : List ℕ → Rule → ℕ → ℕ → Type 0
Breaks file TooLong k b = IsTooLong file × (k ≡ most_records) × (b ≡ 0)
Breaks file PartialRecord k b = HasPartialRecord file × (k ≡ whole_records file) × (b ≡ 0)
Breaks file NoRecord k b = HasNoRecord file × (k ≡ 0) × (b ≡ 0)
Breaks file UnknownLetter k b = InRecord file k (HasUnknownLetter file k) × (b ≡ 0)
Breaks file MisplacedOption k b = InRecord file k (IsMisplacedOption file k) × (b ≡ 1)
Breaks file ValueCount k b = InRecord file k (HasWrongCount file k) × (b ≡ 2)
Breaks file UnknownReference k b = InRecord file k (FirstByte (HasUnknownAt file k) b)
Breaks file MaskBeyondValues k b = InRecord file k (HasMaskBeyondValues file k) × (b ≡ 4)
Breaks file ReservedByte k b = InRecord file k (FirstByte (HasNonzeroAt file k) b)
Breaks file Duplicate k b = InRecord file k (Repeated file k) × (b ≡ 1)
Breaks file TooManyInequalities k b = InRecord file k (HasTooManyInequalities file k) × (b ≡ 0)

-- when a rule is looked at: those of the file before all records, and then record by record
abbrev pub turn_of : Layer → ℕ → ℕ
turn_of layer.File k = zero
turn_of layer.Record k = suc k
turn_of layer.Book k = suc k

-- rule r at record k is looked at before rule s at record l: in an earlier turn, or in the same and with a smaller number
abbrev pub Sooner : Rule → ℕ → Rule → ℕ → Type 0
Sooner r k s l =
    (turn_of (layer_of r) k < turn_of (layer_of s) l)
    ⊎ ((turn_of (layer_of r) k ≡ turn_of (layer_of s) l) × (number_of r < number_of s))

-- the fault that is named: its rule is broken there, and no rule that is looked at sooner is broken
pub record FirstFault (file : List ℕ) (f : Fault) : Type 0 where
  pub broken : Breaks file f.rule f.«record» f.byte
  pub first : (r : Rule) (k b : ℕ) → Breaks file r k b → Sooner r k f.rule f.«record» → ⊥
  pub layer : f.layer ≡ layer_of f.rule

-- no rule is broken anywhere in the file
abbrev pub Sound : List ℕ → Type 0
Sound file = (r : Rule) (k b : ℕ) → Breaks file r k b → ⊥

-- no rule on the file as a whole is broken
abbrev pub SoundFile : List ℕ → Type 0
SoundFile file = (r : Rule) (k b : ℕ) → layer_of r ≡ layer.File → Breaks file r k b → ⊥

-- a rule on records, and not on the file as a whole
abbrev pub OnRecord : Rule → Type 0
OnRecord r = layer_of r ≡ layer.File → ⊥

-- no rule on records is broken at record k
abbrev pub SoundRecord : List ℕ → ℕ → Type 0
SoundRecord file k = (r : Rule) (b : ℕ) → OnRecord r → Breaks file r k b → ⊥

-- the fault of record k that is named: of the rules on records that it breaks, the one with the smallest number
pub record FirstInRecord (file : List ℕ) (k : ℕ) (f : Fault) : Type 0 where
  pub place : f.«record» ≡ k
  pub on_record : OnRecord f.rule
  pub broken : Breaks file f.rule k f.byte
  pub first : (r : Rule) (b : ℕ) → OnRecord r → Breaks file r k b → number_of r < number_of f.rule → ⊥
  pub layer : f.layer ≡ layer_of f.rule

-- a rule's answer at a record: the byte at which it is broken, or none where it is not
abbrev pub Finds : Option ℕ → (ℕ → Type 0) → Type 0
Finds r P = MatchOption r ((b : ℕ) → P b → ⊥) P
