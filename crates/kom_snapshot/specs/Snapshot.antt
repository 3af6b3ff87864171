-- A snapshot, and the stored rows that it stands for. That rows are kept so is this server's own
-- choice.
use Rattle.std.specs.Prelude.{Bool, true, ◌&&◌, List, [], ◌∷◌, ◌++◌, map, Option, Some, None}
use Rattle.std.specs.Prelude.{if◌then◌else◌}
use Rattle.kom_types.specs.Parts.{Part, Makes, Raises}
use Rattle.kom_types.specs.declared.effects.Effect.{Effect}
use Rattle.kom_types.specs.declared.raised.Raised.{Raised}
use Rattle.kom_model.specs.Db.{Db, empty_db}
use Rattle.kom_model.specs.Effects.{apply_all, all_fit}
use Rattle.kom_model.specs.Raising.{may_raise, raised_in}

-- effects, and then counters that are raised
pub record Snapshot : Type 0 where
  pub effects : List Effect
  pub raised : List Raised

-- its parts, in order
abbrev pub parts_of : Snapshot → List Part
parts_of snapshot = map Makes snapshot.effects ++ map Raises snapshot.raised

-- the rows after all of them, each after those before it; and whether each may be raised so then
abbrev pub raise_all : List Raised → Db → Db
raise_all [] db = db
raise_all (given ∷ others) db = raise_all others (raised_in given db)

abbrev pub all_may_raise : List Raised → Db → Bool
all_may_raise [] db = true
all_may_raise (given ∷ others) db =
    may_raise given db && all_may_raise others (raised_in given db)

-- the rows that the effects of a snapshot make, from no row on
abbrev pub made_by : Snapshot → Db
made_by snapshot = apply_all snapshot.effects empty_db

-- whether each effect fits, and then each counter may be raised so
abbrev pub is_sound : Snapshot → Bool
is_sound snapshot =
    all_fit snapshot.effects empty_db && all_may_raise snapshot.raised (made_by snapshot)

-- The rows that a snapshot stands for: none where it is not sound.
abbrev pub stands_for : Snapshot → Option Db
stands_for snapshot =
    if is_sound snapshot then Some (raise_all snapshot.raised (made_by snapshot)) else None
