-- A change of one value in a list of values at places.
use Rattle.std.specs.Prelude.{ℕ, zero, suc, List, [], ◌∷◌}
use denote.RawPtr.{Ptr}

-- the list with f of the i-th value
abbrev pub edit : {X : Type 0} → ℕ → (X → X) → List (Ptr × X) → List (Ptr × X)
edit i f [] = []
edit zero f (x ∷ xs) = (x.0, f x.1) ∷ xs
edit (suc i) f (x ∷ xs) = x ∷ edit i f xs
