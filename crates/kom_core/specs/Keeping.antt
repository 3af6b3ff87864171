-- The effects that a keeper gets.
use Rattle.std.specs.Prelude.{List, [], Result, Ok, Err}
use Rattle.kom_types.specs.declared.acts.Record.{Record}
use Rattle.kom_types.specs.declared.answers.NotMade.{NotMade}
use Rattle.kom_types.specs.declared.effects.Effect.{Effect}
use Rattle.kom_model.specs.State.{State}
use Rattle.kom_model.specs.Kept.{kept_of}

-- a keeper gets what is kept of an act that was made, and of one that was not nothing
abbrev pub kept_by : State → Result Record NotMade → List Effect
kept_by state (Ok made) = kept_of state made
kept_by state (Err why) = []
