-- What refuses an act is never that memory ran out.
use Rattle.std.proofs.Common.{◌≡◌, ℕ, Bool, true, false, cond, Option, Some, None}
use Rattle.kom_types.specs.declared.limits.TheConstants.{MOST_SESSIONS}
use Rattle.kom_types.specs.declared.acts.Act.{Act}
use Rattle.kom_types.specs.declared.acts.Act.TheVariants as act
use Rattle.kom_types.specs.declared.answers.NotMade.{NotMade}
use Rattle.kom_types.specs.declared.answers.NotMade.TheVariants.{Gone, Full, Memory}
use Rattle.kom_types.specs.declared.answers.Why.TheVariants.{Dropped, Overrun, Stopped}
use Rattle.kom_types.specs.Sessions.{Session}
use Rattle.std.specs.Prelude.{◌&&◌, nat_lt}
use Rattle.kom_model.specs.State.{State, session_of}
use Rattle.kom_model.specs.Refusal.{call_refused, drain_refused, close_refused, connect_refused}
use Rattle.kom_model.specs.Refusal.{unless_store_refused, refusal_of, is_drained}
use Rattle.kom_model.specs.Making.{IsNotMade}

-- nothing, or something else
abbrev IsOther : Option NotMade → Type 0
IsOther found = found ≡ Some Memory → ⊥

either : (test : Bool) (one other : Option NotMade) → IsOther one → IsOther other → IsOther (cond test one other)
either true one other first second = first
either false one other first second = second

nothing : IsOther None
nothing is = cc

call-other : (stopped : Bool) (found : Option Session) → IsOther (call_refused stopped found)
call-other stopped None = λ is. cc
call-other stopped (Some row) =
    let last : Option NotMade = cond stopped (Some (Gone Stopped)) None in
    let rest : Option NotMade = cond row.overrun (Some (Gone Overrun)) last in
    let last-other : IsOther last = either stopped (Some (Gone Stopped)) None (λ is. cc) nothing in
    let rest-other : IsOther rest = either row.overrun (Some (Gone Overrun)) last (λ is. cc) last-other in
    either row.seat.ended (Some (Gone Dropped)) rest (λ is. cc) rest-other

drain-other : (found : Option Session) → IsOther (drain_refused found)
drain-other None = λ is. cc
drain-other (Some row) =
    let rest : Option NotMade = cond row.overrun (Some (Gone Overrun)) None in
    let rest-other : IsOther rest = either row.overrun (Some (Gone Overrun)) None (λ is. cc) nothing in
    either (row.seat.ended && is_drained row) (Some (Gone Dropped)) rest (λ is. cc) rest-other

close-other : (found : Option Session) → IsOther (close_refused found)
close-other None = λ is. cc
close-other (Some row) = nothing

connect-other : (stopped : Bool) (connects : ℕ) → IsOther (connect_refused stopped connects)
connect-other stopped connects =
    let rest : Option NotMade = cond (nat_lt connects MOST_SESSIONS) None (Some (Full connects)) in
    let rest-other : IsOther rest =
    either (nat_lt connects MOST_SESSIONS) None (Some (Full connects)) nothing (λ is. cc) in
    either stopped (Some (Gone Stopped)) rest (λ is. cc) rest-other

unless-other : (marked : Bool) (found : Option NotMade) → IsOther found → IsOther (unless_store_refused marked found)
unless-other marked found other = either marked (Some (Gone Stopped)) found (λ is. cc) other

refused-other : (state : State) (what : Act) → IsOther (refusal_of state what)
refused-other state (act.Connect user host) =
    unless-other state.store_refused (connect_refused state.stopped state.connects)
    (connect-other state.stopped state.connects)
refused-other state (act.Call session reference call) =
    unless-other state.store_refused (call_refused state.stopped (session_of session state))
    (call-other state.stopped (session_of session state))
refused-other state (act.Broken session) =
    unless-other state.store_refused (call_refused state.stopped (session_of session state))
    (call-other state.stopped (session_of session state))
refused-other state (act.Drain session) =
    unless-other state.store_refused (drain_refused (session_of session state))
    (drain-other (session_of session state))
refused-other state act.Flush = unless-other state.store_refused None nothing
refused-other state (act.Close session) = close-other (session_of session state)

-- an act that this refuses is not made for it
pub refused_not_made : (state : State) (what : Act) (why : NotMade) → refusal_of state what ≡ Some why →
    IsNotMade state what why
refused_not_made state what (Gone why) is = is
refused_not_made state what (Full number) is = is
refused_not_made state what Memory is = absurd (refused-other state what is)
