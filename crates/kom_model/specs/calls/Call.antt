-- What the definition of a call is made of.
use Rattle.std.specs.Prelude.{◌≡◌, ℕ, ◌==◌, List, [], Option, Some, None, find, Result, Ok, Err}
use Rattle.kom_types.specs.declared.replies.Reply.{Reply}
use Rattle.kom_types.specs.declared.replies.Reply.TheVariants as reply
use Rattle.kom_types.specs.declared.decisions.Decision.{Decision}
use Rattle.kom_types.specs.declared.effects.Effect.{Effect}
use Rattle.kom_types.specs.declared.seats.Seat.{Seat}
use Rattle.kom_types.specs.declared.session_changes.SessionChange.{SessionChange}
use Rattle.kom_model.specs.declared.call_errors.CallError.{CallError}
use Rattle.kom_model.specs.declared.call_errors.CallError.TheVariants as error
use Rattle.kom_model.specs.declared.call_errors.Refused.{Refused}
use Rattle.kom_model.specs.Db.{Db}

-- All that a call may read: the stored rows, the seats of all sessions, the moment of the entry,
-- the caller's session, and the reference, whose digits count in the length of the reply's line.
pub record Asked : Type 0 where
  pub db : Db
  pub seats : List Seat
  pub moment : ℕ
  pub session : ℕ
  pub reference : ℕ

-- the seat of the caller's session
abbrev pub seat_of : Asked → Option Seat
seat_of asked = find (λ seat. seat.number == asked.session) asked.seats

-- The two parts of a call's definition: the guard that refuses it before any new item of an object
-- is looked at, and what it comes to where none does.
pub record Definition : Type 0 where
  pub early : Option Refused
  pub rest : Decision

-- a call that changes nothing is answered so
abbrev pub answer : Reply → Decision
answer reply = record { reply = reply; effects = []; changes = [] }

-- a good reply without a result, with effects on the stored rows and changes of sessions
abbrev pub done_with : List Effect → List SessionChange → Decision
done_with effects changes = record { reply = reply.Done; effects = effects; changes = changes }

-- a refused call changes nothing
abbrev pub refuse : Refused → Decision
refuse refused = answer (reply.Refused refused.code refused.status)

-- no guard refuses the call
abbrev pub without_guard : Decision → Definition
without_guard decision = record { early = None; rest = decision }

-- a guard refuses the call before anything else is looked at
abbrev pub refused_with : ℕ → ℕ → Definition
refused_with code status =
    let refusal : Refused = record { code = code; status = status } in
    record { early = Some refusal; rest = refuse refusal }

-- what a definition comes to
abbrev pub outcome_of : Definition → Decision
outcome_of definition =
    elim definition.early [ Some refused ↦ refuse refused | None ↦ definition.rest ]

-- The code of a call gives what its definition says: what the call comes to if no early guard
-- refuses it; what a guard refuses; or that memory ran out, but never in place of an early guard.
abbrev pub Meets : Definition → Result Decision CallError → Type 0
Meets definition (Ok decision) = (definition.early ≡ None) × (decision ≡ definition.rest)
Meets definition (Err (error.Refused refused)) = outcome_of definition ≡ refuse refused
Meets definition (Err error.Memory) = definition.early ≡ None

-- the same of a call that takes no memory
abbrev pub MeetsFirmly : Definition → Result Decision Refused → Type 0
MeetsFirmly definition (Ok decision) = (definition.early ≡ None) × (decision ≡ definition.rest)
MeetsFirmly definition (Err refused) = outcome_of definition ≡ refuse refused
