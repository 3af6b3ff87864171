-- What a keeper of effects has.
use Rattle.std.specs.Prelude.{◌≡◌, true, List, ◌∷◌, ◌++◌, Option, option_map}
use Rattle.kom_types.specs.declared.effects.Effect.{Effect}
use Rattle.kom_model.specs.Db.{Db}
use Rattle.kom_model.specs.Effects.{fits}

-- effects after those that wait, if any are kept
abbrev pub append_pending : List Effect → Option (List Effect) → Option (List Effect)
append_pending effects pending = option_map (λ list. list ++ effects) pending

-- there is room for effects of which this is the first
abbrev pub HasRoomFirst : {K : Type 0} → (K → List Effect → Type 0) → K → Effect → Type 0
HasRoomFirst has_room keeper what = (more : List Effect) × has_room keeper (what ∷ more)

-- the effect fits in some rows, and so has limits
abbrev pub FitsSome : Effect → Type 0
FitsSome what = (db : Db) × (fits what db ≡ true)
