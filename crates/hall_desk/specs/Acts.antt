-- What a server in a hall does, and where a history leads.
use Rattle.std.specs.Prelude.{◌≡◌, List, map, Result, Ok, Err}
use Rattle.kom_types.specs.declared.acts.Entry.{Entry}
use Rattle.kom_types.specs.declared.acts.Record.{Record}
use Rattle.kom_types.specs.declared.answers.NotMade.{NotMade}
use Rattle.kom_model.specs.State.{State, IsSound, opening_state}
use Rattle.kom_model.specs.Db.{Db}
use Rattle.kom_model.specs.Making.{IsMadeBy, IsNotMade}
use Rattle.kom_model.specs.Legal.{IsLegal, AreByOwners, state_after}

module _ {B E : Type 0} (follows : B → E → B → Type 0) (stays : B → B → Type 0) (made : E → Record)
    (server : B → State) where
  -- An act was made, and its entry leads on; or it was not made, for this, and nothing changed.
  abbrev pub Comes : B → Entry → B → Result E NotMade → Type 0
  Comes old entry new (Ok logged) =
      follows old logged new × IsMadeBy (server old) (server new) entry (made logged)
  Comes old entry new (Err why) =
      stays old new × (server new ≡ server old) × IsNotMade (server old) entry.act why

-- a history leads from the opening server to this one, act by act, each by the pass of its session
pub record IsLed {B E : Type 0} (made : E → Record) (server : B → State) (opening : B)
    (history : List E) (value : B) : Type 0 where
  pub legal : IsLegal (server opening) (map made history)
  pub owned : AreByOwners (server opening) (map made history)
  pub state : server value ≡ state_after (server opening) (map made history)

-- a sound server before its first entry, over some rows
abbrev pub IsOpening : State → Type 0
IsOpening state = (db : Db) × (state ≡ opening_state db) × IsSound state
