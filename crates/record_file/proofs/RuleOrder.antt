-- The rules by their numbers, and a record's first fault by them. Assumes nothing.
use Rattle.std.proofs.Common.{◌≡◌, ℕ, zero, suc, get_or, ◌+◌, ◌<◌, cond, eqb, ◌⊎◌, List, [], ◌∷◌, Option, sym, refl, ap, ◌∙◌, subst, inl, inr, ⊎_elim, arith}
use Rattle.std.proofs.lemmas.Bool.{cases_order}
use Rattle.record_file.specs.declared.fault.Layer.TheVariants.{File, Record, Book}
use Rattle.record_file.specs.declared.fault.Rule.{Rule}
use Rattle.record_file.specs.declared.fault.Rule.TheVariants.{TooLong, PartialRecord, NoRecord, UnknownLetter}
use Rattle.record_file.specs.declared.fault.Rule.TheVariants.{MisplacedOption, ValueCount, UnknownReference}
use Rattle.record_file.specs.declared.fault.Rule.TheVariants.{MaskBeyondValues, ReservedByte, Duplicate, TooManyInequalities}
use Rattle.record_file.specs.Faults.{number_of, layer_of, OnRecord, fault_at, Breaks, Finds, FirstInRecord}

-- the rule with a number
abbrev rule_of : ℕ → Rule
rule_of n =
    cond (eqb n 1) TooLong
    (cond (eqb n 2) PartialRecord
    (cond (eqb n 3) NoRecord
    (cond (eqb n 4) UnknownLetter
    (cond (eqb n 5) MisplacedOption
    (cond (eqb n 6) ValueCount
    (cond (eqb n 7) UnknownReference
    (cond (eqb n 8) MaskBeyondValues
    (cond (eqb n 9) ReservedByte
    (cond (eqb n 10) Duplicate TooManyInequalities)))))))))

rule_of_number : (r : Rule) → rule_of (number_of r) ≡ r
rule_of_number TooLong = refl
rule_of_number PartialRecord = refl
rule_of_number NoRecord = refl
rule_of_number UnknownLetter = refl
rule_of_number MisplacedOption = refl
rule_of_number ValueCount = refl
rule_of_number UnknownReference = refl
rule_of_number MaskBeyondValues = refl
rule_of_number ReservedByte = refl
rule_of_number Duplicate = refl
rule_of_number TooManyInequalities = refl

pub same_rule : (r s : Rule) → number_of r ≡ number_of s → r ≡ s
same_rule r s e = sym (rule_of_number r) ∙ ap rule_of e ∙ rule_of_number s

never_file : (Record ≡ File) ⊎ (Book ≡ File) → ⊥
never_file = ⊎_elim (λ e. let z : ◌≡◌ {A = ℕ} 0 1 = cc in omega arith) (λ e. let z : ◌≡◌ {A = ℕ} 0 1 = cc in omega arith)

-- the rules on records are those from number 4 to number 11
pub record_rule : (r : Rule) → OnRecord r → (3 < number_of r) × (number_of r < 12)
record_rule TooLong nf = absurd (nf refl)
record_rule PartialRecord nf = absurd (nf refl)
record_rule NoRecord nf = absurd (nf refl)
record_rule UnknownLetter nf = omega arith
record_rule MisplacedOption nf = omega arith
record_rule ValueCount nf = omega arith
record_rule UnknownReference nf = omega arith
record_rule MaskBeyondValues nf = omega arith
record_rule ReservedByte nf = omega arith
record_rule Duplicate nf = omega arith
record_rule TooManyInequalities nf = omega arith

pub on_record : (r : Rule) → 3 < number_of r → layer_of r ≡ File → ⊥
on_record TooLong lt e = omega arith
on_record PartialRecord lt e = omega arith
on_record NoRecord lt e = omega arith
on_record UnknownLetter lt e = never_file (inl e)
on_record MisplacedOption lt e = never_file (inl e)
on_record ValueCount lt e = never_file (inl e)
on_record UnknownReference lt e = never_file (inl e)
on_record MaskBeyondValues lt e = never_file (inl e)
on_record ReservedByte lt e = never_file (inl e)
on_record Duplicate lt e = never_file (inr e)
on_record TooManyInequalities lt e = never_file (inr e)

-- no rule on records with a number below n is broken at record k
abbrev pub SoundBelow : List ℕ → ℕ → ℕ → Type 0
SoundBelow file k n = (r : Rule) (b : ℕ) → OnRecord r → number_of r < n → Breaks file r k b → ⊥

-- the rules on records, in the order of their numbers
abbrev pub record_rules : List Rule
record_rules =
    UnknownLetter ∷ MisplacedOption ∷ ValueCount ∷ UnknownReference ∷ MaskBeyondValues ∷ ReservedByte ∷ Duplicate ∷ TooManyInequalities ∷ []

number_at : (i : ℕ) (d : Rule) → i < 8 → number_of (get_or record_rules i d) ≡ i + 4
number_at zero d lt = refl
number_at (suc zero) d lt = refl
number_at (suc (suc zero)) d lt = refl
number_at (suc (suc (suc zero))) d lt = refl
number_at (suc (suc (suc (suc zero)))) d lt = refl
number_at (suc (suc (suc (suc (suc zero))))) d lt = refl
number_at (suc (suc (suc (suc (suc (suc zero)))))) d lt = refl
number_at (suc (suc (suc (suc (suc (suc (suc zero))))))) d lt = refl
number_at (suc (suc (suc (suc (suc (suc (suc (suc i)))))))) d lt = absurd (omega arith)

module _ (file : List ℕ) (k : ℕ) where
  -- a rule's answer, under another name of the rule
  pub finds_for : (answer : Option ℕ) {rule same : Rule} → rule ≡ same → Finds answer (Breaks file same k) → Finds answer (Breaks file rule k)
  finds_for answer e h = subst (λ r. Finds answer (Breaks file r k)) (sym e) h

  pub sound_below_more : (n : ℕ) (rule : Rule) → number_of rule ≡ n → ((b : ℕ) → Breaks file rule k b → ⊥) → SoundBelow file k n → SoundBelow file k (n + 1)
  sound_below_more n rule is none below r b nf lt broken =
      ⊎_elim
      (λ same. none b (subst (λ x. Breaks file x k b) (same_rule r rule (same ∙ sym is)) broken))
      (⊎_elim (λ less. below r b nf less broken) (λ more. omega arith))
      (cases_order (number_of r) n)

  pub first_in_record : (rule : Rule) (b : ℕ) → OnRecord rule → Breaks file rule k b → SoundBelow file k (number_of rule) → FirstInRecord file k (fault_at rule k b)
  first_in_record rule b nf broken below = record {
    place = refl;
    on_record = nf;
    broken = broken;
    first = λ r a nf' broken' lt. below r a nf' lt broken';
    layer = refl;
  }

  -- rule by rule, in the order of the list
  module _ (i : ℕ) (d : Rule) (lt : i < 8) (below : SoundBelow file k (i + 4)) where
    is_on : OnRecord (get_or record_rules i d)
    is_on = on_record _ (omega (arith, number_at i d lt))

    pub sound_below_next : (OnRecord (get_or record_rules i d) → (b : ℕ) → Breaks file (get_or record_rules i d) k b → ⊥) → SoundBelow file k (i + 1 + 4)
    sound_below_next none =
        let next : i + 4 + 1 ≡ i + 1 + 4 = omega arith in
        subst (SoundBelow file k) next (sound_below_more (i + 4) _ (number_at i d lt) (none is_on) below)

    pub first_broken : (b : ℕ) → (OnRecord (get_or record_rules i d) → Breaks file (get_or record_rules i d) k b) → FirstInRecord file k (fault_at (get_or record_rules i d) k b)
    first_broken b broken =
        first_in_record _ b is_on (broken is_on) (subst (SoundBelow file k) (sym (number_at i d lt)) below)
