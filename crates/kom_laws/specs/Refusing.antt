-- What a refused call changes.
use Rattle.std.specs.Prelude.{◌≡◌, ℕ, ◌==◌, List, [], ◌∷◌, Some, if◌then◌else◌}
use Rattle.kom_types.specs.declared.errors.TheConstants as error
use Rattle.kom_types.specs.declared.acts.Record.{Record}
use Rattle.kom_types.specs.declared.calls.Call.{Call}
use Rattle.kom_types.specs.declared.calls.Call.TheVariants as call
use Rattle.kom_types.specs.declared.replies.Reply.TheVariants as reply
use Rattle.kom_types.specs.declared.session_changes.SessionChange.{SessionChange}
use Rattle.kom_types.specs.declared.session_changes.SessionChange.TheVariants as change
use Rattle.kom_model.specs.After.{after, reply_in}
use Rattle.kom_model.specs.Decide.{decision_of}
use Rattle.kom_model.specs.State.{State}
use Rattle.kom_model.specs.calls.Call.{Asked}
use Rattle.kom_model.specs.calls.Sessions.{accepted_bits}

-- The changes of sessions of a call that is refused with this code: none. But where accept-async is
-- refused for a number of no message, its session accepts the messages of the other numbers.
abbrev pub refused_changes : Asked → Call → ℕ → List SessionChange
refused_changes asked (call.AcceptAsync numbers) code =
    if code == error.UNKNOWN_ASYNC
    then change.Accept asked.session (accepted_bits numbers) ∷ [] else []
refused_changes asked other code = []

-- A refused call has no effects, and changes no session but so.
abbrev pub RefusedChangesNothing : Type 0
RefusedChangesNothing = (asked : Asked) (call : Call) (code status : ℕ)
    → (decision_of asked call).reply ≡ reply.Refused code status
    → ((decision_of asked call).effects ≡ [])
    × ((decision_of asked call).changes ≡ refused_changes asked call code)

-- So the stored rows after a record whose call was refused, also since memory ran out, are those
-- before it.
abbrev pub RefusedKeepsRows : Type 0
RefusedKeepsRows = (state : State) (made : Record) (code status : ℕ)
    → reply_in state made ≡ Some (reply.Refused code status) → (after state made).db ≡ state.db
