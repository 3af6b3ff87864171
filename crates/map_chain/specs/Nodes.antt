-- The nodes of a list by their places.
use Rattle.std.specs.Prelude.{◌≡◌, ℕ, List, map, slice_get, Some}
use denote.RawPtr.{Ptr}

-- where the nodes lie
abbrev pub places : {X : Type 0} → List (Ptr × X) → List Ptr
places = map (λ n. n.0)

-- the i-th node lies at p
abbrev pub IsAt : {X : Type 0} → List (Ptr × X) → ℕ → Ptr → Type 0
IsAt ns i p = slice_get (places ns) i ≡ Some p
