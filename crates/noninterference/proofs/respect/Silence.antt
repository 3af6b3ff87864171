-- A call that changes no session, and sends a group nothing, leaves the sessions of the group as they are.
use Rattle.std.proofs.Common.{◌≡◌, ℕ, ◌+◌, true, false, cond, not, ◌==◌, List, [], ◌∷◌, ◌++◌, refl, sym, ap, ap₂}
use Rattle.std.proofs.Common.{◌∙◌, inl, inr, eqb-true, true≢false}
use Rattle.std.specs.Prelude.{map, max}
use Rattle.std.specs.List.{filter, AllByRecursion}
use Rattle.std.proofs.lemmas.Bool.{cases_Bool, not-true}
use Rattle.std.proofs.lemmas.List.Elements.{filter-append}
use Rattle.kom_types.specs.declared.calls.Call.{Call}
use Rattle.kom_types.specs.declared.decisions.Decision.{Decision}
use Rattle.kom_types.specs.declared.seats.Seat.{Seat}
use Rattle.kom_types.specs.declared.session_changes.SessionChange.{SessionChange}
use Rattle.kom_types.specs.Sessions.{Session, waiting_limits}
use Rattle.kom_model.specs.After.{decision_at, after, moment_of, make_changes, queue_all, reply_to, carry_out}
use Rattle.kom_model.specs.Db.{Db}
use Rattle.kom_model.specs.Decide.{asked_in}
use Rattle.kom_model.specs.Effects.{apply_all}
use Rattle.kom_model.specs.Kinds.{is_among}
use Rattle.kom_model.specs.Sending.{Delivery}
use Rattle.kom_model.specs.State.{State, IsSound, seats_of}
use Rattle.kom_model.specs.ToWhom.{sendings, messages_of}
use Rattle.kom_model.specs.Viewers.{viewer_of}
use Rattle.kom_model.specs.calls.Call.{Asked}
use Rattle.kom_model.proofs.Queueing.{queue_all-rows}
use Rattle.kom_laws.specs.Erasing.{erased_db, erased_session, erase}
use Rattle.kom_laws.specs.Groups.{Group, IsOfGroup}
use Rattle.noninterference.specs.outputs.Brought.{brought_to}
use Rattle.noninterference.specs.steps.Calls.{record_of_call}
use Rattle.noninterference.specs.steps.Same.{AreOfGroup}
use Rattle.noninterference.proofs.steps.Calls.{IsOwn, all-onto, kept-own}
use Rattle.noninterference.proofs.steps.Delivering.{is_for, one-at, none-delivered, one-delivered}
use Rattle.noninterference.proofs.steps.Queueing.{items_for, rows-erased}
use Rattle.noninterference.specs.respect.Calls.{later}

-- a call of a session outside the group changes no session, and sends the group nothing
pub record IsSilent (group : Group) (state : State) (moment session reference : ℕ) (call : Call) : Type 0 where
  pub sound : IsSound state
  pub of_group : AreOfGroup group state
  pub outside : not (is_among group.sessions session) ≡ true
  pub still : (decision_at state moment session reference call).changes ≡ []
  pub silent : (seat : Seat) → IsOfGroup group (viewer_of state.db seat)
      → brought_to state.db seat
      (sendings (asked_in state (moment_of state moment) session reference) call
      (decision_at state moment session reference call)) ≡ []

module _ (group : Group) (state : State) (moment session reference : ℕ) (call : Call)
    (quiet : IsSilent group state moment session reference call) where
  abbrev asked : Asked
  asked = asked_in state (moment_of state moment) session reference

  abbrev decision : Decision
  decision = decision_at state moment session reference call

  -- ---- nothing comes to the group
  own : AllByRecursion (IsOwn group state.db) (seats_of state)
  own = all-onto (IsOwn group state.db) (λ (session : Session). session.seat) state.sessions quiet.of_group

  messages-none : (number : ℕ) → is_among group.sessions number ≡ true →
      filter (is_for number) (messages_of asked call decision) ≡ []
  unfolding messages_of
  messages-none number among = elim (one-at number state.sessions quiet.sound.distinct) [
    | inl none ↦ none-delivered number state.db (seats_of state) _ none
    | inr found ↦ one-delivered number state.db (seats_of state) _ found.0 found.1
        ∙ quiet.silent found.0 (kept-own group state.db number (seats_of state) found.0 [] own among found.1)
  ]

  reply-none : (number : ℕ) → is_among group.sessions number ≡ true →
      filter (is_for number) (reply_to session reference decision.reply ∷ []) ≡ []
  reply-none number among = ap (λ here. cond here (reply_to session reference decision.reply ∷ []) []) apart where
    apart : (number == session) ≡ false
    apart = elim (cases_Bool (number == session)) [
      | inl here ↦ absurd (true≢false
          (sym among ∙ ap (is_among group.sessions) (eqb-true number session here) ∙ not-true _ quiet.outside))
      | inr there ↦ there
    ]

  abbrev delivers : List Delivery
  delivers = messages_of asked call decision ++ reply_to session reference decision.reply ∷ []

  pub items-none : (number : ℕ) → is_among group.sessions number ≡ true →
      items_for number delivers ≡ items_for number []
  items-none number among = ap (map (λ (one : Delivery). one.item))
      (filter-append (is_for number) (messages_of asked call decision) _
      ∙ ap₂ (λ (first others : List Delivery). first ++ others) (messages-none number among)
      (reply-none number among))

  -- ---- the rows change by the effects alone
  abbrev changed : State
  changed = record state { db = apply_all decision.effects state.db }

  pub acted-changed : carry_out (moment_of state moment) decision state ≡ changed
  acted-changed =
      ap (λ (changes : List SessionChange). make_changes (moment_of state moment) changes changed) quiet.still

  queued-same : map (erased_session group) (queue_all waiting_limits delivers changed).sessions
      ≡ map (erased_session group) state.sessions
  queued-same = rows-erased group waiting_limits state.entries changed state delivers [] refl refl refl items-none

  -- the state with other stored rows and other rows of sessions, one entry later
  abbrev later_with : Db → List Session → State
  later_with db sessions = record state {
    db = db;
    sessions = sessions;
    entries = state.entries + 1;
    moment = max state.moment moment;
  }

  pub after-silent : (pass : ℕ) → erase group (after state (record_of_call pass moment session reference call))
      ≡ record (later moment (erase group state)) { db = erased_db group (apply_all decision.effects state.db) }
  after-silent pass =
      let between : later_with (erased_db group (apply_all decision.effects state.db))
      (map (erased_session group) (queue_all waiting_limits delivers changed).sessions)
      ≡ later_with (erased_db group (apply_all decision.effects state.db))
      (map (erased_session group) state.sessions) =
      ap (later_with (erased_db group (apply_all decision.effects state.db))) queued-same in
      ap (λ (acted : State). erase group (record (queue_all waiting_limits delivers acted) {
        entries = state.entries + 1;
        moment = moment_of state moment;
      })) acted-changed
      ∙ ap (λ (sent : State). erase group (record sent {
        entries = state.entries + 1;
        moment = moment_of state moment;
      })) (queue_all-rows waiting_limits delivers changed) ∙ between

  -- the stored rows after the call
  pub rows-after : (pass : ℕ) →
      (after state (record_of_call pass moment session reference call)).db ≡ apply_all decision.effects state.db
  rows-after pass = ap (λ (sent : State). sent.db)
      (queue_all-rows waiting_limits delivers (carry_out (moment_of state moment) decision state))
      ∙ ap (λ (acted : State). acted.db) acted-changed
