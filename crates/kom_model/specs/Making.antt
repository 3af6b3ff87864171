-- What the making of an act comes to.
use Rattle.std.specs.Prelude.{◌≡◌, Some, None}
use Rattle.kom_types.specs.declared.acts.Act.{Act}
use Rattle.kom_types.specs.declared.acts.Act.TheVariants as act
use Rattle.kom_types.specs.declared.acts.Entry.{Entry}
use Rattle.kom_types.specs.declared.acts.Record.{Record}
use Rattle.kom_types.specs.declared.answers.NotMade.{NotMade}
use Rattle.kom_types.specs.declared.answers.NotMade.TheVariants.{Gone, Full, Memory}
use Rattle.kom_model.specs.State.{State}
use Rattle.kom_model.specs.Refusal.{refusal_of}
use Rattle.kom_model.specs.After.{MayFollow, after}

-- the act of this entry was made, by this record
pub record IsMadeBy (old new : State) (entry : Entry) (made : Record) : Type 0 where
  pub entry_made : made.entry ≡ entry
  pub follows : MayFollow old made
  pub state : new ≡ after old made

-- a session is to begin
abbrev pub IsConnect : Act → Type 0
IsConnect (act.Connect user host) = Unit {0}
IsConnect (act.Call session reference call) = ⊥
IsConnect (act.Broken session) = ⊥
IsConnect (act.Drain session) = ⊥
IsConnect act.Flush = ⊥
IsConnect (act.Close session) = ⊥

-- Why an act is not made in a state: this refuses it; or memory ran out, where nothing does. All
-- acts take no memory but a Connect: for a call that wants some, its answer says that it ran out.
abbrev pub IsNotMade : State → Act → NotMade → Type 0
IsNotMade state what (Gone why) = refusal_of state what ≡ Some (Gone why)
IsNotMade state what (Full number) = refusal_of state what ≡ Some (Full number)
IsNotMade state what Memory = (refusal_of state what ≡ None) × IsConnect what
