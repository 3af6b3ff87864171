-- What a call comes to fits in the stored rows.
use Rattle.std.specs.Prelude.{◌≡◌, false, IsTrue}
use Rattle.kom_types.specs.declared.acts.Record.{Record}
use Rattle.kom_types.specs.declared.calls.Call.{Call}
use Rattle.kom_model.specs.Decide.{decision_of}
use Rattle.kom_model.specs.Effects.{all_fit}
use Rattle.kom_model.specs.Kept.{effects_of, kept_of}
use Rattle.kom_model.specs.State.{State, AreSeated, IsSound}
use Rattle.kom_model.specs.Whole.{IsWhole}
use Rattle.kom_model.specs.calls.Call.{Asked}

-- the effects of what a call comes to fit, one after the other
abbrev pub AllFit : Asked → Call → Type 0
AllFit asked call = IsTrue (all_fit (decision_of asked call).effects asked.db)

-- What any call comes to fits, over all whole rows, where who is logged in is there and no user's
-- name is too long.
abbrev pub DecidedFit : Type 0
DecidedFit = (asked : Asked) (call : Call) → IsWhole asked.db → AreSeated asked.db asked.seats
    → AllFit asked call

-- So in every sound state the effects of the call of an entry all fit.
abbrev pub SoundFit : Type 0
SoundFit = (state : State) (made : Record) → IsSound state
    → IsTrue (all_fit (effects_of state made.entry) state.db)

-- And what a store keeps of a record that is not short is what its call decides.
abbrev pub KeptIsDecided : Type 0
KeptIsDecided = (state : State) (made : Record) → IsSound state → made.short ≡ false
    → kept_of state made ≡ effects_of state made.entry
