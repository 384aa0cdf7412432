-- Files worked by hand, each with what the rules say of it. Assumes nothing.
use Rattle.std.specs.Prelude.{◌≡◌, ℕ, List, [], ◌∷◌, ◌++◌, length, replicate, Some, None, Option, MatchOption}
use Rattle.record_file.specs.declared.fault.Fault.{Fault}
use Rattle.record_file.specs.declared.fault.Rule.TheVariants.{PartialRecord, NoRecord, MaskBeyondValues}
use Rattle.record_file.specs.Layout.{o_letter, r_letter}
use Rattle.record_file.specs.Faults.{fault_at, FirstFault, Sound}

-- no fault, or the first one
abbrev pub Verdict : List ℕ → Option Fault → Type 0
Verdict file verdict = MatchOption verdict (Sound file) (FirstFault file)

-- an O record with no name, and an R record whose mask is one byte
abbrev pub o_record : ℕ → ℕ → List ℕ
o_record option count = o_letter ∷ option ∷ count ∷ replicate 13 0

abbrev pub r_record : ℕ → ℕ → ℕ → ℕ → List ℕ
r_record option value other mask = r_letter ∷ option ∷ value ∷ other ∷ mask ∷ replicate 11 0

-- two options of four values, and which values of the second go with value 0 of the first
abbrev pub masked : ℕ → List ℕ
masked mask = o_record 0 4 ++ o_record 1 4 ++ r_record 0 0 1 mask

-- the files that an example speaks of: all of one length, or one alone
pub data Files : Type 0 where
  of_length : ℕ → Files
  the_file : List ℕ → Files

abbrev pub Among : Files → List ℕ → Type 0
Among (of_length n) file = length file ≡ n
Among (the_file bytes) file = file ≡ bytes

pub record Example : Type 0 where
  pub files : Files
  pub verdict : Option Fault

abbrev pub examples : List Example
examples =
    record { files = of_length 0; verdict = Some (fault_at NoRecord 0 0) }
    ∷ record { files = of_length 17; verdict = Some (fault_at PartialRecord 1 0) }
    ∷ record { files = the_file (masked 15); verdict = None }
    ∷ record { files = the_file (masked 16); verdict = Some (fault_at MaskBeyondValues 2 4) }
    ∷ []

-- each example is as the rules have it
abbrev pub EachHolds : List Example → Type 0
EachHolds [] = Unit {0}
EachHolds (x ∷ xs) = ((file : List ℕ) → Among x.files file → Verdict file x.verdict) × EachHolds xs
