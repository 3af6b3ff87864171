-- What holds of snapshots.
use Rattle.std.specs.Prelude.{◌≡◌, ℕ, true, List, Some}
use Rattle.kom_types.specs.declared.effects.Effect.{Effect}
use Rattle.kom_model.specs.Db.{Db, empty_db}
use Rattle.kom_model.specs.Effects.{IsProtected, fits, after_effect, apply_all}
use Rattle.kom_model.specs.Initial.{initial}
use Rattle.kom_model.specs.Whole.{IsWhole}
use Rattle.kom_types.specs.declared.raised.Raised.{Raised}
use Rattle.kom_snapshot.specs.Listed.{IsListed}
use Rattle.kom_snapshot.specs.Snap.{snap}
use Rattle.kom_model.specs.Raising.{may_raise, raised_in}
use Rattle.kom_snapshot.specs.Snapshot.{Snapshot, stands_for}

-- The rows before any effect are listed. An effect that fits leaves whole rows listed that were; so
-- do effects one after the other, since one that does not fit changes nothing. So the rows of a new
-- server are listed.
pub record StandListed : Type 0 where
  pub empty : IsListed empty_db
  pub one : (what : Effect) (db : Db) → fits what db ≡ true → IsWhole db → IsListed db
      → IsListed (after_effect what db)
  pub all : (effects : List Effect) (db : Db) → IsWhole db → IsListed db
      → IsListed (apply_all effects db)
  pub initial : (password : List ℕ) (moment : ℕ) → IsListed (initial password moment)

-- The snapshot of stored rows stands for them, where they are as effects leave them: whole, listed,
-- and with each secret conference read-protected.
abbrev pub SnapshotStands : Type 0
SnapshotStands = (db : Db) → IsWhole db → IsProtected db → IsListed db
    → stands_for (snap db) ≡ Some db

-- So the snapshot of rows that effects make, from no row on, stands for them.
abbrev pub MadeStands : Type 0
MadeStands = (effects : List Effect) → let made : Db = apply_all effects empty_db in
    stands_for (snap made) ≡ Some made

-- rows that a snapshot gives again: whole, protected and listed
pub record IsRestorable (db : Db) : Type 0 where
  pub whole : IsWhole db
  pub protected : IsProtected db
  pub listed : IsListed db

-- A counter that may be raised leaves such rows such. So the rows that any snapshot stands for,
-- from wherever it was read, are such.
pub record StandRaised : Type 0 where
  pub one : (given : Raised) (db : Db) → may_raise given db ≡ true → IsRestorable db
      → IsRestorable (raised_in given db)
  pub read : (snapshot : Snapshot) (db : Db) → stands_for snapshot ≡ Some db → IsRestorable db
