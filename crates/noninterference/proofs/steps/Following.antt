-- States that an act leaves the same but for what is hidden, with what it delivers queued.
use Rattle.std.proofs.Common.{◌≡◌, ℕ, ◌+◌, true, List, sym, ap, ◌∙◌}
use Rattle.std.specs.Prelude.{map, max}
use Rattle.kom_types.specs.declared.acts.Record.{Record}
use Rattle.kom_types.specs.Sessions.{Session, waiting_limits}
use Rattle.kom_model.specs.After.{after, after_act, deliveries, queue_all, moment_of}
use Rattle.kom_model.specs.Kinds.{is_among}
use Rattle.kom_model.specs.State.{State}
use Rattle.kom_model.proofs.Queueing.{queue_all-rows}
use Rattle.kom_laws.specs.Erasing.{erased_session, erase}
use Rattle.kom_laws.specs.Groups.{Group}
use Rattle.noninterference.proofs.steps.Queueing.{items_for, rows-erased}

module _ (group : Group) (made : Record) where
  -- the rows of sessions after what an act delivers was queued
  abbrev queued_rows : State → List Session
  queued_rows state =
      map (erased_session group) (queue_all waiting_limits (deliveries state made) (after_act state made)).sessions

  -- a state with other rows of sessions, one entry later
  abbrev later : State → State → List Session → State
  later base state sessions = record base {
    sessions = sessions;
    entries = state.entries + 1;
    moment = max state.moment made.entry.moment;
  }

  after-rows : (state : State) →
      erase group (after state made) ≡ later (erase group (after_act state made)) state (queued_rows state)
  after-rows state = ap (λ (sent : State). erase group (record sent {
    entries = state.entries + 1;
    moment = moment_of state made.entry.moment;
  })) (queue_all-rows waiting_limits (deliveries state made) (after_act state made))

  -- where the act changes the same, and delivers the same to the group, the states after it are the same
  pub after-same : (one other : State) → erase group one ≡ erase group other →
      erase group (after_act one made) ≡ erase group (after_act other made) →
      (after_act one made).entries ≡ one.entries →
      (after_act other made).entries ≡ other.entries →
      ((number : ℕ) → is_among group.sessions number ≡ true →
      items_for number (deliveries one made) ≡ items_for number (deliveries other made)) →
      erase group (after one made) ≡ erase group (after other made)
  after-same one other same changed kept kept' items =
      let entries : one.entries ≡ other.entries = ap (λ (state : State). state.entries) same in
      let moments : one.moment ≡ other.moment = ap (λ (state : State). state.moment) same in
      let queued : queued_rows one ≡ queued_rows other =
      rows-erased group waiting_limits one.entries (after_act one made) (after_act other made) (deliveries one made)
      (deliveries other made) kept (kept' ∙ sym entries) (ap (λ (state : State). state.sessions) changed) items in
      let between : later (erase group (after_act one made)) one (queued_rows one)
      ≡ later (erase group (after_act other made)) other (queued_rows other) =
      λ i. record (changed i) {
        sessions = queued i;
        entries = entries i + 1;
        moment = max (moments i) made.entry.moment;
      } in
      after-rows one ∙ between ∙ sym (after-rows other)
