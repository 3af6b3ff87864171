-- Histories of the one-thread server.
use Rattle.std.specs.Prelude.{◌≡◌, ℕ, List, [], ◌∷◌, Option, Some, None, IfSome}
use Rattle.kom_types.specs.declared.acts.Act.{Act}
use Rattle.kom_types.specs.declared.acts.Act.TheVariants as act
use Rattle.kom_types.specs.declared.acts.Entry.{Entry}
use Rattle.kom_types.specs.declared.acts.Record.{Record}
use Rattle.kom_model.specs.State.{State, session_of}
use Rattle.kom_model.specs.After.{MayFollow, after}
pub use Rattle.kom_model.specs.After.{HasUser}

-- each record may follow in the state that those before it leave
abbrev pub IsLegal : State → List Record → Type 0
IsLegal state [] = Unit {0}
IsLegal state (made ∷ history) = MayFollow state made × IsLegal (after state made) history

-- the state after all of them
abbrev pub state_after : State → List Record → State
state_after state [] = state
state_after state (made ∷ history) = state_after (after state made) history

-- the session for which an act is made, if there is one before it
abbrev pub session_served : Act → Option ℕ
session_served (act.Connect user host) = None
session_served (act.Call session reference call) = Some session
session_served (act.Broken session) = Some session
session_served (act.Drain session) = Some session
session_served act.Flush = None
session_served (act.Close session) = Some session

-- an act of a session that is there is made by the pass that connected it
abbrev pub IsByOwner : State → Entry → Type 0
IsByOwner state entry = IfSome (session_served entry.act) (λ session.
    IfSome (session_of session state) (λ row. row.seat.pass ≡ entry.pass))

-- the same of each record of a history
abbrev pub AreByOwners : State → List Record → Type 0
AreByOwners state [] = Unit {0}
AreByOwners state (made ∷ history) =
    IsByOwner state made.entry × AreByOwners (after state made) history
