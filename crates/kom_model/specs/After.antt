-- One step of the server.
use Rattle.std.specs.Prelude.{◌≡◌, ℕ, ◌+◌, ◌≤◌, max, not, ◌||◌, Bool, true, false, List, [], ◌∷◌}
use Rattle.std.specs.Prelude.{◌++◌, length, map, filter, Option, Some, None, if◌then◌else◌}
use Rattle.kom_types.specs.declared.limits.TheConstants.{LONGEST_USER_NAME}
use Rattle.kom_types.specs.declared.errors.TheConstants as error
use Rattle.kom_types.specs.declared.acts.Act.{Act}
use Rattle.kom_types.specs.declared.acts.Act.TheVariants as act
use Rattle.kom_types.specs.declared.acts.Record.{Record}
use Rattle.kom_types.specs.declared.calls.Call.{Call}
use Rattle.kom_types.specs.declared.replies.Reply.{Reply}
use Rattle.kom_types.specs.declared.replies.Reply.TheVariants as reply
use Rattle.kom_types.specs.declared.decisions.Decision.{Decision}
use Rattle.kom_types.specs.declared.items.Item.TheVariants as item
use Rattle.kom_types.specs.declared.session_changes.SessionChange.{SessionChange}
use Rattle.kom_types.specs.Sessions.{Session, Limits, waiting_limits, fresh_session, is_session}
use Rattle.kom_types.specs.Sessions.{queue, after_drain, changed_session, after_change, is_stop}
use Rattle.kom_model.specs.State.{State}
use Rattle.kom_model.specs.Effects.{apply_all}
use Rattle.kom_model.specs.Decide.{asked_in, decision_of, is_firm}
use Rattle.kom_model.specs.Refusal.{IsPossible}
use Rattle.kom_model.specs.Sending.{Delivery}
use Rattle.kom_model.specs.ToWhom.{messages_of}

-- the session that the record of an act names: that of the act; at a Connect the one that it makes;
-- at a flush 0
abbrev pub session_in : State → Act → ℕ
session_in state (act.Connect user host) = state.connects + 1
session_in state (act.Call session reference call) = session
session_in state (act.Broken session) = session
session_in state (act.Drain session) = session
session_in state act.Flush = 0
session_in state (act.Close session) = session

-- the moment of an entry: the one handed in, or that of the entry before it where that is later
abbrev pub moment_of : State → ℕ → ℕ
moment_of state given = max state.moment given

-- A call that is not firm may be answered that memory ran out, and a flush may be refused by the
-- store. The record of no other act is short.
abbrev pub MayBeShort : State → ℕ → Act → Bool → Type 0
MayBeShort state moment what false = Unit {0}
MayBeShort state moment (act.Call session reference call) true =
    is_firm (asked_in state (moment_of state moment) session reference) call ≡ false
MayBeShort state moment act.Flush true = Unit {0}
MayBeShort state moment (act.Connect user host) true = ⊥
MayBeShort state moment (act.Broken session) true = ⊥
MayBeShort state moment (act.Drain session) true = ⊥
MayBeShort state moment (act.Close session) true = ⊥

-- the user of a greeting has at most 1,024 bytes
abbrev pub HasUser : Act → Type 0
HasUser (act.Connect user host) = length user ≤ LONGEST_USER_NAME
HasUser (act.Call session reference call) = Unit {0}
HasUser (act.Broken session) = Unit {0}
HasUser (act.Drain session) = Unit {0}
HasUser act.Flush = Unit {0}
HasUser (act.Close session) = Unit {0}

-- a record may follow in a history that led to this state
pub record MayFollow (state : State) (made : Record) : Type 0 where
  pub possible : IsPossible state made.entry.act
  pub user : HasUser made.entry.act
  pub session : made.session ≡ session_in state made.entry.act
  pub short : MayBeShort state made.entry.moment made.entry.act made.short

-- with this change in the row of a session
abbrev pub with_session : ℕ → (Session → Session) → State → State
with_session number change state = record state {
  sessions = map (λ row. if is_session number row then change row else row) state.sessions;
}

-- Items are queued one by one for their sessions, by the entry that is made, under these limits.
abbrev pub queue_all : Limits → List Delivery → State → State
queue_all limits [] state = state
queue_all limits (delivery ∷ deliveries) state =
    queue_all limits deliveries
    (with_session delivery.session (queue limits state.entries delivery.item) state)

-- what a call comes to at this moment
abbrev pub decision_at : State → ℕ → ℕ → ℕ → Call → Decision
decision_at state moment session reference call =
    decision_of (asked_in state (moment_of state moment) session reference) call

-- the reply to a call, for its session
abbrev pub reply_to : ℕ → ℕ → Reply → Delivery
reply_to session reference body = record { session = session; item = item.Reply reference body }

-- the messages of a call, and then its reply; a short one is answered 39 alone, out of memory
abbrev pub call_deliveries : State → ℕ → ℕ → ℕ → Call → Bool → List Delivery
call_deliveries state moment session reference call true =
    reply_to session reference (reply.Refused error.OUT_OF_MEMORY 0) ∷ []
call_deliveries state moment session reference call false =
    let decision = decision_at state moment session reference call in
    messages_of (asked_in state (moment_of state moment) session reference) call decision
    ++ reply_to session reference decision.reply ∷ []

-- The reply to the call of a record: what the call comes to, or 39, out of memory, if the record is
-- short; another act has none.
abbrev pub reply_in : State → Record → Option Reply
reply_in state made = elim made.entry.act [
  | act.Connect user host ↦ None
  | act.Call session reference call ↦ Some (if made.short then reply.Refused error.OUT_OF_MEMORY 0
      else (decision_at state made.entry.moment session reference call).reply)
  | act.Broken session ↦ None
  | act.Drain session ↦ None
  | act.Flush ↦ None
  | act.Close session ↦ None
]

-- What an act sends, in order.
abbrev pub deliveries : State → Record → List Delivery
deliveries state made = elim made.entry.act [
  | act.Connect user host ↦ record { session = state.connects + 1; item = item.Hello } ∷ []
  | act.Call session reference call ↦ call_deliveries state made.entry.moment session reference
      call made.short
  | act.Broken session ↦ record { session = session; item = item.Fault } ∷ []
  | act.Drain session ↦ []
  | act.Flush ↦ []
  | act.Close session ↦ []
]

-- what a change of a session makes of the server, at a moment
abbrev pub make_change : ℕ → SessionChange → State → State
make_change moment change state =
    record (with_session (changed_session change) (after_change change moment) state)
    { stopped = state.stopped || is_stop change }

abbrev pub make_changes : ℕ → List SessionChange → State → State
make_changes moment [] state = state
make_changes moment (change ∷ changes) state =
    make_changes moment changes (make_change moment change state)

-- what a decision changes: the stored rows by its effects, and the sessions by its changes
abbrev pub carry_out : ℕ → Decision → State → State
carry_out moment decision state =
    make_changes moment decision.changes (record state { db = apply_all decision.effects state.db })

-- the session that a Connect makes is added
abbrev pub with_connected : ℕ → ℕ → List ℕ → List ℕ → State → State
with_connected pass moment user host state = record state {
  sessions = state.sessions ++ fresh_session (state.connects + 1) pass user host moment ∷ [];
  connects = state.connects + 1;
}

-- a flush makes all entries before it stable, unless the store refuses it
abbrev pub after_flush : Bool → State → State
after_flush true state = record state { store_refused = true }
after_flush false state = record state { stable = state.entries }

-- a session is there no more
abbrev pub without : ℕ → State → State
without session state = record state {
  sessions = filter (λ row. not (is_session session row)) state.sessions;
}

-- What an act changes, beside what it sends and the history's length and moment.
abbrev pub after_act : State → Record → State
after_act state made = let moment = moment_of state made.entry.moment in elim made.entry.act [
  | act.Connect user host ↦ with_connected made.entry.pass moment user host state
  | act.Call session reference call ↦ elim made.short [
    | true ↦ state
    | false ↦ carry_out moment (decision_at state made.entry.moment session reference call) state
  ]
  | act.Broken session ↦ state
  | act.Drain session ↦ with_session session (after_drain state.stable) state
  | act.Flush ↦ after_flush made.short state
  | act.Close session ↦ without session state
]

-- the same, with what it sends
abbrev pub after_sending : State → Record → State
after_sending state made = queue_all waiting_limits (deliveries state made) (after_act state made)

-- The state that follows a record.
abbrev pub after : State → Record → State
after state made =
    record (after_sending state made) {
      entries = state.entries + 1;
      moment = moment_of state made.entry.moment;
    }
