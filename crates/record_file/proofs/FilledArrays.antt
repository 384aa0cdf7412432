-- The elements of an array that a closure gives, where a call leaves the closure as it is. Assumes nothing.
use Rattle.std.proofs.Common.{◌≡◌, ℕ, zero, suc, ◌+◌, ◌<◌, List, get_or, subst, arith}
use Rattle.std.specs.Array.{IsFromFnResult, IsFromFnResultFrom}
use Rattle.std.specs.Fn.{Called}
use denote.Param.Members.{Mut}

module _ {F B : Type 0} (g : Mut F (ℕ × Unit {0}) B) (f : F) (P : ℕ → B → Type 0)
    (step : (i : ℕ) (y : B) (q : F) → Called g f (i, tt) y q → P i y × (q ≡ f)) where
  filled_from : (ys : List B) (i n k m : ℕ) (d : B) → IsFromFnResultFrom g f ys i n → m ≡ i + k → k < n → P m (get_or ys m d)
  filled_from ys i zero k m d made at lt = absurd (omega arith)
  filled_from ys i (suc n) zero m d (q, y, is, call, rest) at lt =
      let here : m ≡ i = omega arith in rw (here, is.1 d) (step i y q call).0
  filled_from ys i (suc n) (suc k) m d (q, y, is, call, rest) at lt =
      filled_from ys (i + 1) n k m d (subst (λ s. IsFromFnResultFrom g s ys (i + 1) n) (step i y q call).1 rest) (omega arith) (omega arith)

  pub filled : (ys : List B) (n : ℕ) → IsFromFnResult g f ys n → (k : ℕ) (d : B) → k < n → P k (get_or ys k d)
  filled ys n made k d lt = filled_from ys 0 n k k d made.each (omega arith) lt
