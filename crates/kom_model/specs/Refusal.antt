-- Why an act is not made.
use Rattle.std.specs.Prelude.{◌≡◌, ℕ, Bool, true, false, ◌&&◌, nat_lt, [], ◌∷◌, Option, Some, None}
use Rattle.std.specs.Prelude.{if◌then◌else◌}
use Rattle.kom_types.specs.declared.limits.TheConstants.{MOST_SESSIONS}
use Rattle.kom_types.specs.declared.acts.Act.{Act}
use Rattle.kom_types.specs.declared.acts.Act.TheVariants as act
use Rattle.kom_types.specs.declared.answers.NotMade.{NotMade}
use Rattle.kom_types.specs.declared.answers.NotMade.TheVariants.{Gone, Full}
use Rattle.kom_types.specs.declared.answers.Why.TheVariants.{Dropped, Overrun, Stopped, Absent}
use Rattle.kom_types.specs.Sessions.{Session}
use Rattle.kom_model.specs.State.{State, session_of}

-- nothing waits
abbrev pub is_drained : Session → Bool
is_drained session = elim session.waiting [ [] ↦ true | one ∷ waiting ↦ false ]

-- what refuses a call of a session, or that its stream is said to be at fault
abbrev pub call_refused : Bool → Option Session → Option NotMade
call_refused stopped None = Some (Gone Absent)
call_refused stopped (Some session) =
    if session.seat.ended then Some (Gone Dropped)
    else if session.overrun then Some (Gone Overrun)
    else if stopped then Some (Gone Stopped)
    else None

-- what refuses a drain: a session that a call ended is still drained of what waits
abbrev pub drain_refused : Option Session → Option NotMade
drain_refused None = Some (Gone Absent)
drain_refused (Some session) =
    if session.seat.ended && is_drained session then Some (Gone Dropped)
    else if session.overrun then Some (Gone Overrun)
    else None

-- a session that is there may be closed
abbrev pub close_refused : Option Session → Option NotMade
close_refused None = Some (Gone Absent)
close_refused (Some session) = None

-- what refuses a new session
abbrev pub connect_refused : Bool → ℕ → Option NotMade
connect_refused stopped connects =
    if stopped then Some (Gone Stopped)
    else if nat_lt connects MOST_SESSIONS then None
    else Some (Full connects)

-- once the store has refused a flush, no act is made but a Close
abbrev pub unless_store_refused : Bool → Option NotMade → Option NotMade
unless_store_refused store_refused refusal = if store_refused then Some (Gone Stopped) else refusal

-- Why an act is not made in a state, if it is not.
abbrev pub refusal_of : State → Act → Option NotMade
refusal_of state (act.Connect user host) =
    unless_store_refused state.store_refused (connect_refused state.stopped state.connects)
refusal_of state (act.Call session reference call) =
    unless_store_refused state.store_refused (call_refused state.stopped (session_of session state))
refusal_of state (act.Broken session) =
    unless_store_refused state.store_refused (call_refused state.stopped (session_of session state))
refusal_of state (act.Drain session) =
    unless_store_refused state.store_refused (drain_refused (session_of session state))
refusal_of state act.Flush = unless_store_refused state.store_refused None
refusal_of state (act.Close session) = close_refused (session_of session state)

-- an act is possible where nothing refuses it
abbrev pub IsPossible : State → Act → Type 0
IsPossible state act = refusal_of state act ≡ None
