-- What a step of the server comes to.
use Rattle.std.specs.Prelude.{◌≡◌, ℕ, ◌+◌, Bool, true, false, List, [], ◌∷◌, ◌++◌, Option, Some}
use Rattle.std.specs.Prelude.{None, Result, Ok, Err}
use Rattle.kom_types.specs.declared.errors.TheConstants as error
use Rattle.kom_types.specs.declared.acts.Act.{Act}
use Rattle.kom_types.specs.declared.acts.Act.TheVariants as act
use Rattle.kom_types.specs.declared.acts.Entry.{Entry}
use Rattle.kom_types.specs.declared.acts.Record.{Record}
use Rattle.kom_types.specs.declared.answers.NotMade.{NotMade}
use Rattle.kom_types.specs.declared.replies.Reply.{Reply}
use Rattle.kom_types.specs.declared.replies.Reply.TheVariants as reply
use Rattle.kom_types.specs.declared.decisions.Decision.{Decision}
use Rattle.kom_types.specs.declared.session_changes.SessionChange.{SessionChange}
use Rattle.kom_types.specs.declared.session_changes.SessionChange.TheVariants.{Stop}
use Rattle.kom_types.specs.Sessions.{waiting_limits, changed_session, is_stop}
use Rattle.kom_model.specs.State.{State}
use Rattle.kom_model.specs.Refusal.{refusal_of}
use Rattle.kom_model.specs.Making.{IsNotMade}
use Rattle.kom_model.specs.Decide.{asked_in, is_firm}
use Rattle.kom_model.specs.Sending.{Delivery}
use Rattle.kom_model.specs.After.{session_in, moment_of, queue_all, reply_to, carry_out}
use Rattle.kom_model.specs.After.{after_sending}
use Rattle.kom_model.specs.After.{after}
use Rattle.kom_core.specs.declared.asking.Asking.{Asking}
use Rattle.kom_core.specs.Deciding.{IsFirm, ComesTo}

-- the record of an entry that was made
abbrev pub made_of : State → Entry → Bool → Record
made_of state entry short =
    record { entry = entry; session = session_in state entry.act; short = short }

-- with one entry more, at this moment
abbrev pub count_entry : ℕ → State → State
count_entry moment state =
    record state { entries = state.entries + 1; moment = moment_of state moment }

-- a core answers a call that is not firm that memory ran out; no other record of its is short
abbrev pub IsShort : State → ℕ → Act → Bool → Type 0
IsShort state moment what false = Unit {0}
IsShort state moment (act.Call session reference call) true =
    is_firm (asked_in state (moment_of state moment) session reference) call ≡ false
IsShort state moment (act.Connect user host) true = ⊥
IsShort state moment (act.Broken session) true = ⊥
IsShort state moment (act.Drain session) true = ⊥
IsShort state moment act.Flush true = ⊥
IsShort state moment (act.Close session) true = ⊥

-- a record is that of an act that is made
pub record IsRecord (old : State) (entry : Entry) (made : Record) : Type 0 where
  pub entry_made : made.entry ≡ entry
  pub session : made.session ≡ session_in old entry.act
  pub short : IsShort old entry.moment entry.act made.short

-- An act was made, but for the count of entries and the moment, by a record of this session, which
-- is short or not.
abbrev pub Changes : State → Entry → State → ℕ → Bool → Type 0
Changes old entry new session short = (session ≡ session_in old entry.act)
    × IsShort old entry.moment entry.act short × (new ≡ after_sending old (made_of old entry short))

-- an act was made so that its record is not short, whatever the pass and the moment of the entry
abbrev pub ChangesBy : State → Act → State → Type 0
ChangesBy old what new = (pass moment : ℕ)
    → new ≡ after_sending old
    (made_of old (record { pass = pass; moment = moment; act = what }) false)

-- an act was made, or not, for this
abbrev pub Steps : State → Entry → State → Result Record NotMade → Type 0
Steps old entry new (Ok made) = (refusal_of old entry.act ≡ None) × IsRecord old entry made
    × (new ≡ after old (made_of old entry made.short))
Steps old entry new (Err why) = IsNotMade old entry.act why × (new ≡ old)

-- A call was carried out, but for what it sends: these messages, and this reply.
abbrev pub CarriesOut : State → Asking → Reply → List Delivery → State → Type 0
CarriesOut old asking reply messages new =
    (decision : Decision) × ComesTo old asking decision messages × (reply ≡ decision.reply)
    × (new ≡ carry_out (moment_of old asking.moment) decision old)

-- A call was carried out and answered; or memory ran out, of which its reply tells, and it is not
-- firm.
abbrev pub Answers : State → Asking → Bool → State → Type 0
Answers old asking true new = (IsFirm old asking → ⊥)
    × (new ≡ queue_all waiting_limits (reply_to asking.session asking.reference (reply.Refused
    error.OUT_OF_MEMORY 0) ∷ []) old)
Answers old asking false new =
    (decision : Decision) × (messages : List Delivery) × ComesTo old asking decision messages
    × (new ≡ queue_all waiting_limits
    (messages ++ reply_to asking.session asking.reference decision.reply ∷ [])
    (carry_out (moment_of old asking.moment) decision old))

-- whose change it is
abbrev pub IsOf : Option ℕ → SessionChange → Type 0
IsOf (Some session) change = (session ≡ changed_session change) × (is_stop change ≡ false)
IsOf None change = change ≡ Stop

-- the act of a greeting, by this pass at this moment
abbrev pub greeting_entry : ℕ → ℕ → List ℕ → List ℕ → Entry
greeting_entry pass moment user host =
    record { pass = pass; moment = moment; act = act.Connect user host }
