-- The bytes of a part of a record are those of the record. Assumes nothing.
use Rattle.std.proofs.Common.{◌≡◌, ℕ, ◌+◌, ◌*◌, ◌<◌, ◌≤◌, List, get_or, drop, ap, ◌∙◌, arith}
use Rattle.std.proofs.lemmas.List.{get_or-take, get_or-drop}
use Rattle.record_file.specs.Layout.{record_length, byte, part, word, word_in}

module _ (file : List ℕ) (k b n : ℕ) where
  pub part-byte : (t : ℕ) → t < n → get_or (part file k b n) t 0 ≡ byte file k (b + t)
  part-byte t lt =
      let place : record_length * k + b + t ≡ record_length * k + (b + t) = omega arith in
      get_or-take n (drop (record_length * k + b) file) t 0 lt ∙ get_or-drop (record_length * k + b) file t 0 ∙ ap (λ i. get_or file i 0) place

  pub part-word : 4 ≤ n → word_in (part file k b n) ≡ word file k b
  part-word le =
      omega (arith, part-byte 0 (omega arith), part-byte 1 (omega arith), part-byte 2 (omega arith), part-byte 3 (omega arith), first)
    where
      first : byte file k (b + 0) ≡ byte file k b
      first = let place : b + 0 ≡ b = omega arith in ap (byte file k) place
