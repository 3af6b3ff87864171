-- What a store keeps of a record.
use Rattle.std.specs.Prelude.{List, [], if◌then◌else◌}
use Rattle.kom_types.specs.declared.acts.Act.TheVariants as act
use Rattle.kom_types.specs.declared.acts.Entry.{Entry}
use Rattle.kom_types.specs.declared.acts.Record.{Record}
use Rattle.kom_types.specs.declared.effects.Effect.{Effect}
use Rattle.kom_model.specs.Effects.{fitting_effects}
use Rattle.kom_model.specs.State.{State}
use Rattle.kom_model.specs.After.{decision_at}

-- the effects that the call of an entry decides; other acts have none
abbrev pub effects_of : State → Entry → List Effect
effects_of state entry = elim entry.act [
  | act.Connect user host ↦ []
  | act.Call session reference call ↦
      (decision_at state entry.moment session reference call).effects
  | act.Broken session ↦ []
  | act.Drain session ↦ []
  | act.Flush ↦ []
  | act.Close session ↦ []
]

-- The effects that a store keeps of a record: those of its call that fit, each after those before
-- it, since no other is made. A call whose record is short has none.
abbrev pub kept_of : State → Record → List Effect
kept_of state made =
    if made.short then [] else fitting_effects (effects_of state made.entry) state.db
