-- The gate at a place, and what stands before it and after it.
use Rattle.std.proofs.Common.{◌≡◌, ◌+◌, ℕ, List, [], ◌∷◌, ◌++◌, length, take, drop, sym, ◌∙◌, ap, arith, append_assoc}
use Rattle.std.proofs.Common.{length-append}
use Rattle.std.proofs.lemmas.List.{take_at, drop_at, drop_all}
use Rattle.batch_log.specs.Repair.{HasGate}

module _ (place : ℕ) (before rest bytes : List ℕ) (gate : ℕ) (long : length before ≡ place)
    (is : bytes ≡ before ++ gate ∷ rest) where
  pub before_gate : take place bytes ≡ before
  before_gate = ap (take place) is ∙ take_at before (gate ∷ rest) place long

  pub after_gate : drop (place + 1) bytes ≡ rest
  after_gate =
      ap (drop (place + 1)) (is ∙ sym (append_assoc before (gate ∷ []) rest))
      ∙ drop_at (before ++ gate ∷ []) rest (place + 1) (omega (arith, length-append before (gate ∷ []), long))

  pub gate_of : HasGate (take place bytes) gate (drop (place + 1) bytes) bytes
  gate_of =
      is ∙ ap (λ (l : List ℕ). l ++ gate ∷ rest) (sym before_gate)
      ∙ ap (λ (l : List ℕ). take place bytes ++ gate ∷ l) (sym after_gate)

-- nothing stands after the last byte
pub none_after : (place : ℕ) (bytes : List ℕ) (gate : ℕ) → length bytes ≡ place + 1
    → HasGate (take place bytes) gate (drop (place + 1) bytes) bytes → bytes ≡ take place bytes ++ gate ∷ []
none_after place bytes gate long is =
    is ∙ ap (λ (l : List ℕ). take place bytes ++ gate ∷ l) (drop_all (place + 1) bytes (omega (arith, long)))
