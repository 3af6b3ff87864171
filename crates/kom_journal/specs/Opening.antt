-- What stands in a store that is opened, and why one is not.
use Rattle.std.specs.Prelude.{◌≡◌, ◌≢◌, ◌<◌, ◌⊎◌, ◌^◌, ℕ, true, List, [], ◌∷◌, ◌++◌, map, length}
use Rattle.std.specs.Prelude.{take}
use Rattle.std.specs.Prelude.{slice_index}
use Rattle.std.specs.List.{flat_map, AllByRecursion}
use Rattle.kom_types.specs.declared.effects.Effect.{Effect}
use Rattle.kom_model.specs.Db.{Db, empty_db}
use Rattle.kom_model.specs.Effects.{apply_all, all_fit, fits}
use Rattle.batch_log.specs.Batches.{with_length, batch, AreShort, IsBroken}
use Rattle.effect_codec.specs.Coding.{coded_effect, IsInRange}
use Rattle.kom_journal.specs.Files.{header, body_of, all_of}
use Rattle.kom_journal.specs.declared.errors.OpenFault.{OpenFault}
use Rattle.kom_journal.specs.declared.errors.OpenFault.TheVariants as fault

-- bytes begin with these effects, which all fit in these rows, one after the other, and go on so
pub record BeginsWith (effects : List Effect) (db : Db) (bytes rest : List ℕ) : Type 0 where
  pub whole : bytes ≡ body_of effects ++ rest
  pub coded : AllByRecursion IsInRange effects
  pub fit : all_fit effects db ≡ true

-- bytes begin with no effect that fits in these rows
abbrev pub BeginsUnfit : Db → List ℕ → Type 0
BeginsUnfit db bytes = (effect : Effect) (rest : List ℕ) → IsInRange effect
    → bytes ≡ coded_effect effect ++ rest → fits effect db ≡ true → ⊥

-- after the effects of a body that fit comes more, and no effect that does
pub record IsUnfit (db : Db) (body : List ℕ) : Type 0 where
  pub effects : List Effect
  pub rest : List ℕ
  pub begins : BeginsWith effects db body rest
  pub more : rest ≢ []
  pub unfit : BeginsUnfit (apply_all effects db) rest

-- the bytes after an open gate are a body after its length, and more; and that body does not fit
pub record HasUnfit (db : Db) (rest : List ℕ) : Type 0 where
  pub body : List ℕ
  pub after : List ℕ
  pub whole : rest ≡ with_length body ++ after
  pub more : 0 < length after
  pub short : length body < 2 ^ 64
  pub unfit : IsUnfit db body

-- After a start, and batches that all fit from some rows on, an open gate, at this place, stands
-- before bytes that are no batch, or before an effect that does not fit.
pub record IsDamagedAt (start : List ℕ) (from : Db) (place : ℕ) (file : List ℕ) : Type 0 where
  pub batches : List (List Effect)
  pub rest : List ℕ
  pub whole : file ≡ start ++ flat_map batch (map body_of batches) ++ 1 ∷ rest
  pub at : place ≡ length (start ++ flat_map batch (map body_of batches))
  pub short : AreShort (map body_of batches)
  pub coded : AllByRecursion (AllByRecursion IsInRange) batches
  pub fit : all_fit (all_of batches) from ≡ true
  pub damaged : IsBroken rest ⊎ HasUnfit (apply_all (all_of batches) from) rest

-- the first place of the header that holds another byte holds this one
pub record IsForeignAt (place byte : ℕ) (file : List ℕ) : Type 0 where
  pub within : place < 16
  pub there : place < length file
  pub before : take place file ≡ take place header
  pub here : slice_index file place ≡ byte
  pub other : slice_index header place ≢ byte

-- the file is so long, which is less than a store without a batch, and begins as a store does
pub record IsTooShort (len : ℕ) (file : List ℕ) : Type 0 where
  pub long : len ≡ length file
  pub short : len < 17
  pub begins : file ≡ take len header

-- why a store is not opened, where the disk does not fail and memory does not run out
abbrev pub IsCauseInFile : List ℕ → OpenFault → Type 0
IsCauseInFile file fault.Fault = Unit {0}
IsCauseInFile file (fault.Foreign place byte) = IsForeignAt place byte file
IsCauseInFile file (fault.Short len) = IsTooShort len file
IsCauseInFile file (fault.Damaged place) = IsDamagedAt header empty_db place file
IsCauseInFile file (fault.Used len) = ⊥
IsCauseInFile file fault.Memory = Unit {0}

-- why a store is not made: it fails, it is used, or memory has run out
abbrev pub IsMakeFault : OpenFault → Type 0
IsMakeFault fault.Fault = Unit {0}
IsMakeFault (fault.Foreign place byte) = ⊥
IsMakeFault (fault.Short len) = ⊥
IsMakeFault (fault.Damaged place) = ⊥
IsMakeFault (fault.Used len) = Unit {0}
IsMakeFault fault.Memory = Unit {0}
