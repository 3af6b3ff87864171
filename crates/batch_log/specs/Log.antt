-- What contracts see of a log, and of what a flush appends.
use Rattle.std.specs.Prelude.{◌<◌, ◌≤◌, ◌+◌, ◌-◌, ◌^◌, ℕ, List, [], ◌∷◌, length, min}

-- a log: its disk, the place of its closed gate, the body that waits, how many bytes more that may
-- get without taking memory, and how many batches stand before that gate
pub record LogView (D : Type 0) : Type 0 where
  pub disk : D
  pub place : ℕ
  pub body : List ℕ
  pub spare : ℕ
  pub batches : ℕ

-- what a log keeps of its gate's place, of how many batches stand before it, and of its buffer
pub record IsKept (size place batches len capacity : ℕ) : Type 0 where
  -- there is room for the length of the body
  pub headed : 8 ≤ len
  -- and for the closed gate after it
  pub roomy : len < capacity
  pub within : place < size
  -- none is without a byte
  pub counted : batches ≤ place

-- the bodies that a flush of this body appends: none of an empty one
abbrev pub flush_of : List ℕ → List (List ℕ)
flush_of [] = []
flush_of (byte ∷ bytes) = (byte ∷ bytes) ∷ []

-- the length of the file with one batch more, or the end of its type
abbrev pub size_after : ℕ → List ℕ → ℕ
size_after place body = min (place + 10 + length body) (2 ^ 64 - 1)
