-- Entries that are hidden from a group, and make no text, leave the state the same for it and send it nothing.
use Rattle.std.proofs.Common.{◌≡◌, ℕ, Bool, true, false, cond, not, ◌==◌, List, [], ◌∷◌, ◌++◌, Some}
use Rattle.std.proofs.Common.{None, refl, sym, ap, ap₂, ◌∙◌, inl, inr, subst, eqb-true, true≢false, length}
use Rattle.std.specs.Prelude.{map, drop}
use Rattle.std.specs.List.{filter_map, find}
use Rattle.std.proofs.lemmas.Bool.{cases_Bool, and_parts, not-true}
use Rattle.std.proofs.Math.Seq.{drop-length}
use Rattle.kom_types.specs.declared.acts.Act.{Act}
use Rattle.kom_types.specs.declared.acts.Act.TheVariants as act
use Rattle.kom_types.specs.declared.acts.Record.{Record}
use Rattle.kom_types.specs.declared.calls.Call.{Call}
use Rattle.kom_types.specs.declared.decisions.Decision.{Decision}
use Rattle.kom_types.specs.declared.seats.Seat.{Seat}
use Rattle.kom_types.specs.declared.session_changes.SessionChange.{SessionChange}
use Rattle.kom_types.specs.Sessions.{Session, is_session, after_drain, waiting_limits}
use Rattle.kom_model.specs.After.{decision_at, after_act, after_sending, deliveries, moment_of}
use Rattle.kom_model.specs.Db.{Db}
use Rattle.kom_model.specs.Decide.{asked_in}
use Rattle.kom_model.specs.Kinds.{is_among}
use Rattle.kom_model.specs.Out.{items_of, waiting_in, waiting_for, queued_for, given_from}
use Rattle.kom_model.specs.State.{State}
use Rattle.kom_model.specs.ToWhom.{sendings, sent_by, is_refused, logged_out, logged_in}
use Rattle.kom_model.specs.Viewers.{viewer_of}
use Rattle.kom_model.specs.calls.Call.{Asked}
use Rattle.kom_model.specs.calls.Guards.{viewer_at}
use Rattle.kom_laws.specs.Erasing.{erased_session, erase}
use Rattle.kom_laws.specs.Groups.{Group, IsOfGroup, IsInGroup}
use Rattle.noninterference.specs.outputs.Brought.{brought_to}
use Rattle.noninterference.specs.steps.Steps.{HasNoOpening}
use Rattle.noninterference.proofs.steps.Acts.{found-erased}
use Rattle.noninterference.proofs.steps.Queueing.{items_for, rows-erased}
use Rattle.noninterference.specs.respect.Calls.{IsOfHidden, later}
use Rattle.noninterference.specs.respect.Entries.{IsHiddenEntry, VanishesFor, HiddenEntriesVanish}
use Rattle.noninterference.specs.respect.Hidden.{is_outside, person_at, is_hidden_call}
use Rattle.noninterference.proofs.respect.Calls.{calls-vanish}
use Rattle.noninterference.proofs.respect.Decided.{Vanishes, hidden-decided}
use Rattle.noninterference.proofs.respect.Silence.{IsSilent, items-none, rows-after}
use Rattle.noninterference.proofs.respect.Untold.{AreUntold, none-brought}

-- ---- nothing is queued where nothing is delivered
module _ (group : Group) (state : State) (made : Record) where
  pub nothing-queued : ((number : ℕ) → is_among group.sessions number ≡ true →
      items_for number (deliveries state made) ≡ []) → (session : ℕ) → is_among group.sessions session ≡ true →
      queued_for session state made ≡ []
  nothing-queued none session among =
      let base : State = after_act state made in
      let rows : map (erased_session group) (after_sending state made).sessions
      ≡ map (erased_session group) base.sessions =
      rows-erased group waiting_limits base.entries base base (deliveries state made) [] refl refl refl none in
      let found : waiting_for session (after_sending state made) ≡ waiting_for session base =
      ap waiting_in (sym (found-erased group session among (after_sending state made).sessions)
      ∙ ap (find (is_session session)) rows ∙ found-erased group session among base.sessions) in
      ap (λ waiting. items_of (drop (length (waiting_for session base)) waiting)) found
      ∙ ap items_of (drop-length (waiting_for session base))

-- ---- who calls
pub caller-at : (db : Db) (session : ℕ) (rows : List Session) →
    (viewer_at db (find (λ seat. seat.number == session) (map (λ row. row.seat) rows))).person
    ≡ elim (find (is_session session) rows) as (λ _. ℕ) [ None ↦ 0 | Some row ↦ row.seat.person ]
caller-at db session [] = refl
caller-at db session (row ∷ rows) = by (row.seat.number == session) (caller-at db session rows) where
  by : (here : Bool) →
      (viewer_at db (find (λ seat. seat.number == session) (map (λ (row : Session). row.seat) rows))).person
      ≡ elim (find (is_session session) rows) as (λ _. ℕ) [ None ↦ 0 | Some row ↦ row.seat.person ] →
      (viewer_at db (cond here (Some row.seat)
      (find (λ seat. seat.number == session) (map (λ (row : Session). row.seat) rows)))).person
      ≡ elim (cond here (Some row) (find (is_session session) rows)) as (λ _. ℕ)
      [ None ↦ 0 | Some row ↦ row.seat.person ]
  by true rest = refl
  by false rest = rest

-- ---- calls
module _ (group : Group) (state : State) (moment session reference : ℕ) (call : Call) where
  abbrev asked : Asked
  asked = asked_in state (moment_of state moment) session reference

  abbrev decision : Decision
  decision = decision_at state moment session reference call

  unless-refused : (refused : Bool) (seat : Seat) → IsOfGroup group (viewer_of state.db seat) →
      (IsInGroup group (viewer_of state.db seat) → refused ≡ false →
      AreUntold (viewer_of state.db seat) (sent_by asked decision call)) →
      brought_to state.db seat (cond refused [] (sent_by asked decision call)) ≡ []
  unless-refused true seat of_group untold = refl
  unless-refused false seat of_group untold =
      none-brought state.db seat group (sent_by asked decision call) of_group (λ in_group. untold in_group refl)

  vanishes-silent : Vanishes group asked call decision → (seat : Seat) → IsOfGroup group (viewer_of state.db seat) →
      brought_to state.db seat (sendings asked call decision) ≡ []
  vanishes-silent vanishes seat of_group =
      ap (λ (changes : List SessionChange). brought_to state.db seat
      (filter_map (logged_out asked) changes ++ filter_map logged_in changes
      ++ cond (is_refused decision.reply) [] (sent_by asked decision call))) vanishes.still
      ∙ unless-refused (is_refused decision.reply) seat of_group (vanishes.untold (viewer_of state.db seat))

  -- the entry of a hidden call that makes no text
  module _ (pass number : ℕ) where
    abbrev made : Record
    made = record {
      entry = record { pass = pass; moment = moment; act = act.Call session reference call };
      session = number;
      short = false;
    }

    call-vanishes : IsHiddenEntry group state made → VanishesFor group state made
    call-vanishes entry =
        let parts = and_parts (is_outside group state session)
        (is_hidden_call group state moment session reference call) entry.hidden in
        let outside = and_parts (not (is_among group.sessions session))
        (not (is_among group.persons (person_at state session))) parts.0 in
        let vanishes : Vanishes group asked call decision = hidden-decided group asked
        (ap (λ person. not (is_among group.persons person)) (caller-at state.db session state.sessions) ∙ outside.1)
        entry.sound.whole call parts.1 entry.textless in
        let silent : IsSilent group state moment session reference call = record {
          sound = entry.sound;
          of_group = entry.of_group;
          outside = outside.0;
          still = vanishes.still;
          silent = vanishes-silent vanishes;
        } in
        let hidden : IsOfHidden group state moment session reference call = record {
          sound = entry.sound;
          of_group = entry.of_group;
          outside = outside.0;
          closed = subst (HasNoOpening group state.db)
              (rows-after group state moment session reference call silent pass) entry.quiet.closed;
          masked = vanishes.masked;
          still = vanishes.still;
          silent = vanishes-silent vanishes;
        } in
        record {
          same = calls-vanish group state pass moment session reference call hidden;
          silent = record {
            queued = nothing-queued group state made
                (items-none group state moment session reference call silent);
            given = λ session among. refl;
          };
        }

-- ---- drains
module _ (group : Group) (session : ℕ) (outside : is_among group.sessions session ≡ false) where
  abbrev blank : Session → Session
  blank row = record row { waiting = []; overrun = false }

  row-drained : (stable : ℕ) (row : Session) →
      erased_session group (cond (is_session session row) (after_drain stable row) row) ≡ erased_session group row
  row-drained stable row = by (is_session session row)
      (λ here. ap (is_among group.sessions) (eqb-true row.seat.number session here) ∙ outside) where
        by : (here : Bool) → (here ≡ true → is_among group.sessions row.seat.number ≡ false) →
            erased_session group (cond here (after_drain stable row) row) ≡ erased_session group row
        by true apart = ap (λ b. cond b (after_drain stable row) (blank row)) (apart refl)
            ∙ sym (ap (λ b. cond b row (blank row)) (apart refl))
        by false apart = refl

  rows-drained : (stable : ℕ) (rows : List Session) →
      map (erased_session group) (map (λ row. cond (is_session session row) (after_drain stable row) row) rows)
      ≡ map (erased_session group) rows
  rows-drained stable [] = refl
  rows-drained stable (row ∷ rows) = ap₂ (λ (first : Session) (others : List Session). first ∷ others)
      (row-drained stable row) (rows-drained stable rows)

  module _ (state : State) (pass moment number : ℕ) (short : Bool) where
    abbrev drains : Record
    drains = record {
      entry = record { pass = pass; moment = moment; act = act.Drain session };
      session = number;
      short = short;
    }

    drain-vanishes : VanishesFor group state drains
    drain-vanishes =
        let rows = rows-drained state.stable state.sessions in record {
          same = λ i. record (later moment (erase group state)) { sessions = rows i };
          silent = record {
            queued = nothing-queued group state drains (λ number among. refl);
            given = λ number among. ap (λ here. cond here (given_from session state ∷ []) []) (apart number among);
          };
        } where
          apart : (number : ℕ) → is_among group.sessions number ≡ true → (session == number) ≡ false
          apart number among = elim (cases_Bool (session == number)) [
            | inl here ↦ absurd (true≢false
                (sym among ∙ ap (is_among group.sessions) (sym (eqb-true session number here)) ∙ outside))
            | inr there ↦ there
          ]

-- ---- all entries
act-vanishes : (group : Group) (state : State) (pass moment number : ℕ) (short : Bool) (what : Act) →
    IsHiddenEntry group state (record {
      entry = record { pass = pass; moment = moment; act = what };
      session = number;
      short = short;
    }) → VanishesFor group state (record {
      entry = record { pass = pass; moment = moment; act = what };
      session = number;
      short = short;
    })
act-vanishes group state pass moment number short (act.Connect user host) entry =
    absurd (true≢false (sym entry.hidden))
act-vanishes group state pass moment number true (act.Call session reference call) entry =
    absurd (true≢false entry.quiet.long)
act-vanishes group state pass moment number false (act.Call session reference call) entry =
    call-vanishes group state moment session reference call pass number entry
act-vanishes group state pass moment number short (act.Broken session) entry = absurd (true≢false (sym entry.hidden))
act-vanishes group state pass moment number short (act.Drain session) entry =
    drain-vanishes group session (not-true _ (and_parts (not (is_among group.sessions session))
    (not (is_among group.persons (person_at state session))) entry.hidden).0) state pass moment number short
act-vanishes group state pass moment number short act.Flush entry = absurd (true≢false (sym entry.hidden))
act-vanishes group state pass moment number short (act.Close session) entry = absurd (true≢false (sym entry.hidden))

pub entries-vanish : HiddenEntriesVanish
entries-vanish group state made entry = act-vanishes group state made.entry.pass made.entry.moment made.session
    made.short made.entry.act entry
