-- The first fault of a file: from that of its first faulty record, and that there is only one. Assumes nothing.
use Rattle.std.proofs.Common.{◌≡◌, ℕ, suc, ◌<◌, false, ◌⊎◌, List, Decides, sym, refl, ap, ◌∙◌, subst, inl, inr, ⊎_elim, arith}
use borrow.Author.Tests.{clash}
use Rattle.std.proofs.lemmas.Bool.{cases_order}
use Rattle.record_file.specs.declared.fault.Fault.{Fault}
use Rattle.record_file.specs.declared.fault.Layer.{Layer}
use Rattle.record_file.specs.declared.fault.Layer.TheVariants.{File, Record, Book}
use Rattle.record_file.specs.declared.fault.Rule.{Rule}
use Rattle.record_file.specs.declared.fault.Rule.TheVariants.{TooLong, PartialRecord, NoRecord, UnknownLetter}
use Rattle.record_file.specs.declared.fault.Rule.TheVariants.{MisplacedOption, ValueCount, UnknownReference}
use Rattle.record_file.specs.declared.fault.Rule.TheVariants.{MaskBeyondValues, ReservedByte, Duplicate, TooManyInequalities}
use Rattle.record_file.specs.Layout.{whole_records}
use Rattle.record_file.specs.Faults.{number_of, layer_of, OnRecord, turn_of, FirstByte, Breaks, FirstFault, FirstInRecord}
use Rattle.record_file.specs.Faults.{Sound, SoundFile, SoundRecord}
use Rattle.record_file.proofs.RuleOrder.{same_rule}

-- a rule is on the file or on a record
pub sort_of : (l : Layer) → (l ≡ File) ⊎ ((l ≡ File → ⊥) × ((k : ℕ) → turn_of l k ≡ suc k))
sort_of File = inl refl
sort_of Record = inr (λ e. let z : ◌≡◌ {A = ℕ} 0 1 = cc in omega arith, λ k. refl)
sort_of Book = inr (λ e. let z : ◌≡◌ {A = ℕ} 0 1 = cc in omega arith, λ k. refl)

turn_on_record : (r : Rule) → OnRecord r → (k : ℕ) → turn_of (layer_of r) k ≡ suc k
turn_on_record r nf k = ⊎_elim (λ is. absurd (nf is)) (λ on. on.1 k) (sort_of (layer_of r))

-- there is no first byte but one
one_byte : (P : ℕ → Type 0) (a b : ℕ) → FirstByte P a → FirstByte P b → a ≡ b
one_byte P a b ha hb =
    ⊎_elim (λ same. same) (⊎_elim (λ less. absurd (hb.first a less ha.holds)) (λ more. absurd (ha.first b more hb.holds))) (cases_order a b)

module _ (file : List ℕ) where
  -- a rule on records is broken at a record of the file
  in_file : (r : Rule) (k b : ℕ) → OnRecord r → Breaks file r k b → k < whole_records file
  in_file TooLong k b nf h = absurd (nf refl)
  in_file PartialRecord k b nf h = absurd (nf refl)
  in_file NoRecord k b nf h = absurd (nf refl)
  in_file UnknownLetter k b nf h = h.0.there
  in_file MisplacedOption k b nf h = h.0.there
  in_file ValueCount k b nf h = h.0.there
  in_file UnknownReference k b nf h = h.there
  in_file MaskBeyondValues k b nf h = h.0.there
  in_file ReservedByte k b nf h = h.there
  in_file Duplicate k b nf h = h.0.there
  in_file TooManyInequalities k b nf h = h.0.there

  -- a file with a first fault is not sound
  pub refuses : (f : Fault) → FirstFault file f → Decides false (Sound file)
  refuses f h = (λ t. absurd (clash t), λ sound. absurd (sound _ _ _ h.broken))

  -- a rule names one byte of a record
  same_byte : (r : Rule) (k a b : ℕ) → Breaks file r k a → Breaks file r k b → a ≡ b
  same_byte TooLong k a b h i = omega (arith, h.2, i.2)
  same_byte PartialRecord k a b h i = omega (arith, h.2, i.2)
  same_byte NoRecord k a b h i = omega (arith, h.2, i.2)
  same_byte UnknownLetter k a b h i = omega (arith, h.1, i.1)
  same_byte MisplacedOption k a b h i = omega (arith, h.1, i.1)
  same_byte ValueCount k a b h i = omega (arith, h.1, i.1)
  same_byte UnknownReference k a b h i = one_byte _ a b h.broken i.broken
  same_byte MaskBeyondValues k a b h i = omega (arith, h.1, i.1)
  same_byte ReservedByte k a b h i = one_byte _ a b h.broken i.broken
  same_byte Duplicate k a b h i = omega (arith, h.1, i.1)
  same_byte TooManyInequalities k a b h i = omega (arith, h.1, i.1)

  -- a rule that is looked at in one turn names one record
  same_record : (r : Rule) (k l a b : ℕ) → turn_of (layer_of r) k ≡ turn_of (layer_of r) l → Breaks file r k a → Breaks file r l b → k ≡ l
  same_record TooLong k l a b e h i = omega (arith, h.1, i.1)
  same_record PartialRecord k l a b e h i = omega (arith, h.1, i.1)
  same_record NoRecord k l a b e h i = omega (arith, h.1, i.1)
  same_record UnknownLetter k l a b e h i = omega arith
  same_record MisplacedOption k l a b e h i = omega arith
  same_record ValueCount k l a b e h i = omega arith
  same_record UnknownReference k l a b e h i = omega arith
  same_record MaskBeyondValues k l a b e h i = omega arith
  same_record ReservedByte k l a b e h i = omega arith
  same_record Duplicate k l a b e h i = omega arith
  same_record TooManyInequalities k l a b e h i = omega arith

  module _ (f g : Fault) (hf : FirstFault file f) (hg : FirstFault file g) where
    -- neither of two first faults is looked at sooner than the other
    same_turn : turn_of (layer_of g.rule) g.«record» ≡ turn_of (layer_of f.rule) f.«record»
    same_turn =
        ⊎_elim
        (λ same. same)
        (⊎_elim (λ less. absurd (hf.first _ _ _ hg.broken (inl less))) (λ more. absurd (hg.first _ _ _ hf.broken (inl more))))
        (cases_order (turn_of (layer_of g.rule) g.«record») (turn_of (layer_of f.rule) f.«record»))

    same_number : number_of g.rule ≡ number_of f.rule
    same_number =
        ⊎_elim
        (λ same. same)
        (⊎_elim
        (λ less. absurd (hf.first _ _ _ hg.broken (inr (same_turn, less))))
        (λ more. absurd (hg.first _ _ _ hf.broken (inr (sym same_turn, more)))))
        (cases_order (number_of g.rule) (number_of f.rule))

    pub one_first_fault : g ≡ f
    one_first_fault =
        let rule : g.rule ≡ f.rule = same_rule g.rule f.rule same_number in
        let turn = subst (λ r. turn_of (layer_of r) g.«record» ≡ turn_of (layer_of f.rule) f.«record») rule same_turn in
        let broken = subst (λ r. Breaks file r g.«record» g.byte) rule hg.broken in
        let place : g.«record» ≡ f.«record» = same_record f.rule _ _ _ _ turn broken hf.broken in
        let byte : g.byte ≡ f.byte = same_byte f.rule _ _ _ (subst (λ k. Breaks file f.rule k g.byte) place broken) hf.broken in
        let layer : g.layer ≡ f.layer = hg.layer ∙ ap layer_of rule ∙ sym hf.layer in
        λ i. record { rule = rule i; «record» = place i; byte = byte i; layer = layer i }

  module _ (whole : SoundFile file) where
    pub sound_by_records : ((k : ℕ) → k < whole_records file → SoundRecord file k) → Sound file
    sound_by_records each r k b broken =
        ⊎_elim
        (λ is. whole r k b is broken)
        (λ on. each k (in_file r k b on.0 broken) r b on.0 broken)
        (sort_of (layer_of r))

    pub first_by_records : (k : ℕ) (f : Fault) → ((j : ℕ) → j < k → SoundRecord file j) → FirstInRecord file k f → FirstFault file f
    first_by_records k f before h = record {
      broken = subst (λ j. Breaks file f.rule j f.byte) (sym h.place) h.broken;
      first = λ r j b broken sooner.
          ⊎_elim
          (λ is. whole r j b is broken)
          (λ on.
          let here = turn_on_record f.rule h.on_record f.«record» in
          let there = on.1 j in
          ⊎_elim
          (λ less. before j (omega (arith, h.place)) r b on.0 broken)
          (λ same.
          let at : j ≡ k = omega (arith, same.0, h.place) in
          h.first r b on.0 (subst (λ i. Breaks file r i b) at broken) same.1)
          sooner)
          (sort_of (layer_of r));
      layer = h.layer;
    }
