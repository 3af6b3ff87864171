-- What a gate of a store that is opened is found to be.
use Rattle.std.specs.Prelude.{◌≡◌, ◌≢◌, ◌<◌, ◌≤◌, ◌+◌, ◌⊎◌, ℕ, List, [], ◌∷◌}
use Rattle.kom_model.specs.Db.{Db}
use Rattle.batch_log.specs.Batches.{IsBroken}
use Rattle.batch_log.specs.Walk.{HasFirst}
use Rattle.kom_journal.specs.Opening.{HasUnfit}
use Rattle.kom_journal.specs.Reading.{MakesPart}
use Rattle.kom_journal.specs.declared.errors.OpenFault.{OpenFault}
use Rattle.kom_journal.specs.declared.errors.OpenFault.TheVariants as fault
use Rattle.kom_journal.specs.declared.opening.End as ends
use Rattle.kom_journal.specs.declared.opening.Next.{Next}
use Rattle.kom_journal.specs.declared.opening.Next.TheVariants.{Batch, End}

-- a batch with a body of this length stands there, and its effects were made
pub record MakesBatch (size : ℕ) (rest : List ℕ) (old new : Db) : Type 0 where
  pub first : HasFirst size rest
  pub made : MakesPart first.body [] old new

-- a batch whose effects were made; or a gate that is not open, and nothing was made
abbrev pub IsNext : List ℕ → Db → Db → Next → Type 0
IsNext rest old new (Batch size) = MakesBatch size rest old new
IsNext rest old new (End gate) =
    (gate ≢ 1) × (new ≡ old) × ((more : List ℕ) × (rest ≡ gate ∷ more))

-- a batch ends before the file does
abbrev pub EndsBefore : ℕ → ℕ → Next → Type 0
EndsBefore at len (Batch size) = at + (9 + size) < len
EndsBefore at len (End gate) = Unit {0}

-- an open gate there stands before bytes that are no batch, or before an effect that does not fit
abbrev pub IsNoNext : ℕ → List ℕ → Db → OpenFault → Type 0
IsNoNext at rest old fault.Fault = Unit {0}
IsNoNext at rest old (fault.Foreign place byte) = ⊥
IsNoNext at rest old (fault.Short len) = ⊥
IsNoNext at rest old (fault.Damaged place) =
    (place ≡ at) × ((more : List ℕ) × (rest ≡ 1 ∷ more) × (IsBroken more ⊎ HasUnfit old more))
IsNoNext at rest old (fault.Used len) = ⊥
IsNoNext at rest old fault.Memory = Unit {0}

-- the gate stands in a file of this length, after no more batches than bytes
abbrev pub IsWithin : ℕ → ends.End → Type 0
IsWithin len end = (end.place < len) × (end.batches ≤ end.place) × (end.len ≡ len)
