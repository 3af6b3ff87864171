-- What the calls of a disk in memory have done, the first of them first.
use Rattle.std.specs.Prelude.{◌≡◌, ◌⊎◌, ◌↔◌, ℕ, List, [], ◌∷◌, ◌++◌, length, take}
use Rattle.std.proofs.Common.{sym, subst}
use Rattle.std.proofs.Math.Seq.{take-length}
use Rattle.kom_disk.specs.Disk.{overwritten, IsTorn, IsShortened}
use Rattle.kom_disk.specs.declared.step.Step.{Step}
use Rattle.kom_disk.specs.declared.step.Step.TheVariants.{Write, Cut, Sync, Pass}

-- the bytes that reads give after these steps
abbrev pub bytes_after : List ℕ → List Step → List ℕ
bytes_after bytes [] = bytes
bytes_after bytes (Write at from ∷ later) = bytes_after (overwritten bytes at from.items) later
bytes_after bytes (Cut len ∷ later) = bytes_after (take len bytes) later
bytes_after bytes (Sync ∷ later) = bytes_after bytes later
bytes_after bytes (Pass ∷ later) = bytes_after bytes later

-- the bytes at the last sync among these steps, and before any sync the stable bytes of before
abbrev pub stable_after : List ℕ → List ℕ → List Step → List ℕ
stable_after stable bytes [] = stable
stable_after stable bytes (Write at from ∷ later) =
    stable_after stable (overwritten bytes at from.items) later
stable_after stable bytes (Cut len ∷ later) = stable_after stable (take len bytes) later
stable_after stable bytes (Sync ∷ later) = stable_after bytes bytes later
stable_after stable bytes (Pass ∷ later) = stable_after stable bytes later

-- an image from before, and what is left of a step on it
abbrev pub LeftOf : (List ℕ → List ℕ → Type 0) → (List ℕ → Type 0) → List ℕ → Type 0
LeftOf step images image = (was : List ℕ) × images was × step was image

-- what is left after these steps, each write and cut since the last sync torn
abbrev pub torn_after : (List ℕ → Type 0) → List ℕ → List Step → List ℕ → Type 0
torn_after images bytes [] = images
torn_after images bytes (Write at from ∷ later) =
    torn_after (LeftOf (IsTorn at (length from.items)) images) (overwritten bytes at from.items) later
torn_after images bytes (Cut len ∷ later) =
    torn_after (LeftOf (IsShortened len) images) (take len bytes) later
torn_after images bytes (Sync ∷ later) = torn_after (λ image. image ≡ bytes) bytes later
torn_after images bytes (Pass ∷ later) = torn_after images bytes later

-- what a stop after these steps may leave: the steps since the last sync torn, or all of them whole
abbrev pub IsImage : List ℕ → List Step → List ℕ → Type 0
IsImage start steps image =
    torn_after (λ was. was ≡ start) start steps image ⊎ (image ≡ bytes_after start steps)

-- the images after all steps are those of now
pub all_steps : (start : List ℕ) (steps : List Step) (image : List ℕ)
    → (IsImage start (take (length steps) steps) image ↔ IsImage start steps image)
all_steps start steps image =
    let P : List Step → Type 0 = λ done. IsImage start done image in
    (λ left. subst P (take-length steps) left, λ left. subst P (sym (take-length steps)) left)

-- a failed call is kept as one that did nothing, or there was no room to keep it
abbrev pub KeepsNothing : List Step → List Step → Type 0
KeepsNothing old new = (new ≡ old) ⊎ (new ≡ old ++ Pass ∷ [])

-- this step writes these bytes at this place
abbrev pub IsWrite : ℕ → List ℕ → Step → Type 0
IsWrite at bytes (Write place from) = (place ≡ at) × (from.items ≡ bytes)
IsWrite at bytes (Cut len) = ⊥
IsWrite at bytes Sync = ⊥
IsWrite at bytes Pass = ⊥

-- what is left of one step that is no sync
abbrev pub LeftBy : Step → List ℕ → List ℕ → Type 0
LeftBy (Write at from) = IsTorn at (length from.items)
LeftBy (Cut len) = IsShortened len
LeftBy Sync = λ was image. ⊥
LeftBy Pass = λ was image. image ≡ was

-- there is no step, or the last one is a sync
abbrev pub EndsSynced : List Step → Type 0
EndsSynced steps = (steps ≡ []) ⊎ ((before : List Step) × (steps ≡ before ++ Sync ∷ []))
