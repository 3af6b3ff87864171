-- What the calls of a disk do to its bytes, and what a stop between two syncs may leave of them.
use Rattle.std.specs.Prelude.{◌≡◌, ◌<◌, ◌≤◌, ◌↔◌, ◌⊎◌, ◌+◌, [], ◌∷◌, ◌++◌, ℕ, Bool, IsTrue}
use Rattle.std.specs.Prelude.{false, List, length, take, drop, max, min}
use Rattle.std.proofs.lemmas.Bool.{false≢true}

-- bytes, with other bytes written over them from a place on
abbrev pub overwritten : List ℕ → ℕ → List ℕ → List ℕ
overwritten bytes at from = take at bytes ++ from ++ drop (at + length from) bytes

-- What is left of a write of n bytes: anything in its range and past the old end, elsewhere what
-- was there.
pub record IsTorn (at n : ℕ) (old new : List ℕ) : Type 0 where
  pub prefix : take at new ≡ take at old
  pub suffix : drop (at + n) new ≡ drop (at + n) old
  pub no_shorter : length old ≤ length new
  pub no_longer : length new ≤ max (length old) (at + n)

-- What is left of a cut to n bytes: a prefix of what was there, and no less than was asked for.
pub record IsShortened (n : ℕ) (old new : List ℕ) : Type 0 where
  pub prefix : take (length new) old ≡ new
  pub no_shorter : min n (length old) ≤ length new

-- What a read of these bytes adds to what the reads have given. Where there are none no read is
-- made.
abbrev pub told_read : ℕ → List ℕ → List (ℕ × List ℕ)
told_read at [] = []
told_read at (byte ∷ bytes) = (at, byte ∷ bytes) ∷ []

-- each new image comes from an old one by this step
abbrev pub ComesBy : (List ℕ → List ℕ → Type 0) → (List ℕ → Type 0) → (List ℕ → Type 0) → Type 0
ComesBy step old new = (image : List ℕ) → new image → (was : List ℕ) × old was × step was image

-- each new image is an old one
abbrev pub AddsNone : (List ℕ → Type 0) → (List ℕ → Type 0) → Type 0
AddsNone old new = (image : List ℕ) → new image → old image

-- a stop leaves these bytes and no others
abbrev pub Only : List ℕ → (List ℕ → Type 0) → Type 0
Only bytes images = (image : List ℕ) → images image → image ≡ bytes

-- A call takes the clock from one moment to another and never back. What a stop up to its start
-- could have left stays as it was, and inside the call a stop leaves an image from its start or one
-- from its end.
pub record Passes {I : Type 0} (tells : Bool) (start end : ℕ) (old new : ℕ → I → Type 0)
    : Type 0 where
  pub forward : start ≤ end
  pub kept : IsTrue tells → (moment : ℕ) (image : I) → moment ≤ start
      → (new moment image ↔ old moment image)
  pub inside : IsTrue tells → (moment : ℕ) (image : I) → start < moment → moment ≤ end
      → new moment image → old start image ⊎ new end image

-- a disk that tells nothing owes nothing
pub owes_nothing : {P : Type 0} → IsTrue false → P
owes_nothing told = absurd (false≢true told)
