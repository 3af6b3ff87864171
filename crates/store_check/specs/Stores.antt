-- What a store is that is not opened, and what a check of one comes to.
use Rattle.std.specs.Prelude.{◌≡◌, ◌≢◌, ◌⊎◌, ◌||◌, ℕ, Bool, true, false, IsTrue, List, Option, Some}
use Rattle.std.specs.Prelude.{None}
use Rattle.std.specs.Prelude.{length, IfSome}
use Rattle.kom_commands.specs.declared.cases.Cases.{Cases}
use Rattle.kom_commands.specs.Reports.{check_lines, HasText}
use Rattle.kom_links.specs.Doors.{SinkView}
use Rattle.kom_model.specs.Db.{Db}
use Rattle.kom_journal.specs.declared.errors.OpenFault.{OpenFault}
use Rattle.kom_journal.specs.declared.errors.OpenFault.TheVariants as fault
use Rattle.kom_journal.specs.Images.{Image, as_read, StandsFor, HasCount}
use Rattle.kom_journal.specs.Images.{IsForeign, IsCutShort, IsDamaged}

-- the image is no store, or a damaged one
abbrev pub IsNoStore : Image → Type 0
IsNoStore image = ((place byte : ℕ) × IsForeign place byte image)
    ⊎ ((len : ℕ) × IsCutShort len image)
    ⊎ ((place : ℕ) × IsDamaged place image)

-- whether it is the content of the disk for which a store is not opened, or not made
abbrev pub is_of_content : OpenFault → Bool
is_of_content fault.Fault = false
is_of_content (fault.Foreign place byte) = true
is_of_content (fault.Short len) = true
is_of_content (fault.Damaged place) = true
is_of_content (fault.Used len) = true
is_of_content fault.Memory = false

-- whether memory ran out
abbrev pub is_memory : OpenFault → Bool
is_memory fault.Fault = false
is_memory (fault.Foreign place byte) = false
is_memory (fault.Short len) = false
is_memory (fault.Damaged place) = false
is_memory (fault.Used len) = false
is_memory fault.Memory = true

-- a fact of the store of a path as the run found it, where the world and its disks tell that
abbrev pub IfFound : Bool → Option (List ℕ → List ℕ) → List ℕ → (Image → Type 0) → Type 0
IfFound tells files path P = IsTrue tells → IfSome files (λ found. P (as_read found path))

-- something went wrong
abbrev pub IsWrong : Cases → Type 0
IsWrong cases =
    IsTrue (cases.store_failed || cases.is_unfit || cases.gate_failed || cases.no_memory
    || cases.is_refused || cases.is_given_up)

-- no sweep was refused or given up
abbrev pub IsUnswept : Cases → Type 0
IsUnswept cases = (cases.is_refused ≡ false) × (cases.is_given_up ≡ false)

-- the disk failed, or was not opened, which is this fact
abbrev pub Fails : {D : Type 0} → (D → ℕ) → Type 0 → Option D → Type 0
Fails faults unopened None = unopened
Fails faults unopened (Some disk) = faults disk ≢ 0

-- The report of a check was put to the sink: so many batches as the file had, and the rows of each
-- kind for which it stands, where the file is told.
pub record IsReported (tells : Bool) (files : Option (List ℕ → List ℕ)) (path : List ℕ)
    (sink : SinkView) : Type 0 where
  pub batches : ℕ
  pub db : Db
  pub counted : IfFound tells files path (HasCount batches)
  pub stands : IfFound tells files path (StandsFor db)
  pub put : HasText
      (check_lines batches (length db.conferences) (length db.persons) (length db.texts)) sink
