-- The first of the bytes 1, 2 and 3 at which something holds that can hold at each. Assumes nothing.
use Rattle.std.proofs.Common.{◌≡◌, ℕ, ◌<◌, ◌⊎◌, refl, inl, inr, ⊎_elim, arith}
use Rattle.record_file.specs.Faults.{FirstByte}

abbrev At : Type 0 → Type 0 → Type 0 → ℕ → Type 0
At A B C b = ((b ≡ 1) × A) ⊎ (((b ≡ 2) × B) ⊎ ((b ≡ 3) × C))

module _ (A B C : Type 0) where
  -- nothing holds before byte 3 but what holds at bytes 1 and 2
  none_before : (a : ℕ) → a < 3 → (A → ⊥) → (a ≡ 2 → B → ⊥) → At A B C a → ⊥
  none_before a lt not_a not-b =
      ⊎_elim (λ at. not_a at.1) (⊎_elim (λ at. not-b at.0 at.1) (λ at. omega (arith, at.0)))

  pub first_is_1 : A → FirstByte (At A B C) 1
  first_is_1 x = record {
    holds = inl (refl, x);
    first = λ a lt. ⊎_elim (λ at. omega (arith, at.0)) (⊎_elim (λ at. omega (arith, at.0)) (λ at. omega (arith, at.0)));
  }

  pub first_is_2 : (A → ⊥) → B → FirstByte (At A B C) 2
  first_is_2 not_a y = record {
    holds = inr (inl (refl, y));
    first = λ a lt. none_before a (omega arith) not_a (λ e _. omega arith);
  }

  pub first_is_3 : (A → ⊥) → (B → ⊥) → C → FirstByte (At A B C) 3
  first_is_3 not_a not-b z = record {
    holds = inr (inr (refl, z));
    first = λ a lt. none_before a lt not_a (λ _. not-b);
  }
