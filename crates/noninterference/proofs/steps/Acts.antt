-- Acts that are no calls leave states the same but for what is hidden from a group.
use Rattle.std.proofs.Common.{◌≡◌, ℕ, ◌+◌, Bool, true, false, cond, not, ◌==◌, List, [], ◌∷◌, ◌++◌, Some}
use Rattle.std.proofs.Common.{None, refl, sym}
use Rattle.std.proofs.Common.{ap, ap₂, ◌∙◌, eqb-true, subst, true≢false}
use Rattle.std.specs.Prelude.{map, max, take}
use Rattle.std.specs.List.{filter, find}
use Rattle.kom_types.specs.declared.acts.Act.{Act}
use Rattle.kom_types.specs.declared.acts.Act.TheVariants as act
use Rattle.kom_types.specs.declared.acts.Record.{Record}
use Rattle.kom_types.specs.declared.items.Item.TheVariants as item
use Rattle.kom_types.specs.Sessions.{Session, fresh_session, is_session, after_drain, drained_count}
use Rattle.kom_model.specs.After.{after, moment_of}
use Rattle.kom_model.specs.Kinds.{is_among}
use Rattle.kom_model.specs.Out.{given_from, items_of, waiting_in}
use Rattle.kom_model.specs.Refusal.{refusal_of, unless_store_refused, connect_refused, call_refused, drain_refused}
use Rattle.kom_model.specs.Refusal.{close_refused}
use Rattle.kom_model.specs.State.{State, session_of}
use Rattle.kom_laws.specs.Erasing.{erased_session, erase}
use Rattle.kom_laws.specs.Groups.{Group}
use Rattle.noninterference.specs.steps.Acts.{is_call, is_by, ActsStandErased}
use Rattle.noninterference.proofs.steps.Following.{after-same}
use Rattle.noninterference.proofs.steps.Queueing.{items_for}

abbrev blank : Session → Session
blank row = record row { waiting = []; overrun = false }

module _ (group : Group) where
  abbrev erases : List Session → List Session
  erases rows = map (erased_session group) rows

  number-erased : (row : Session) → (erased_session group row).seat.number ≡ row.seat.number
  number-erased row = by (is_among group.sessions row.seat.number) where
    by : (own : Bool) → (cond own row (blank row)).seat.number ≡ row.seat.number
    by true = refl
    by false = refl

  -- ---- the row of a session of the group
  pub found-erased : (session : ℕ) → is_among group.sessions session ≡ true → (rows : List Session) →
      find (is_session session) (erases rows) ≡ find (is_session session) rows
  found-erased session own [] = refl
  found-erased session own (row ∷ rows) =
      ap (λ n. cond (n == session) (Some (erased_session group row)) (find (is_session session) (erases rows)))
      (number-erased row)
      ∙ ap (λ found. cond (row.seat.number == session) (Some (erased_session group row)) found)
      (found-erased session own rows)
      ∙ by (row.seat.number == session) (λ here. subst (λ n. is_among group.sessions n ≡ true)
      (sym (eqb-true row.seat.number session here)) own) where
        by : (here : Bool) → (here ≡ true → is_among group.sessions row.seat.number ≡ true) →
            cond here (Some (erased_session group row)) (find (is_session session) rows)
            ≡ cond here (Some row) (find (is_session session) rows)
        by true among = ap (λ b. Some (cond b row (blank row))) (among refl)
        by false among = refl

  module _ (one other : State) (same : erase group one ≡ erase group other) where
    pub session-same : (session : ℕ) → is_among group.sessions session ≡ true →
        session_of session one ≡ session_of session other
    session-same session own = sym (found-erased session own one.sessions)
        ∙ ap (λ (state : State). find (is_session session) state.sessions) same
        ∙ found-erased session own other.sessions

    store-same : one.store_refused ≡ other.store_refused
    store-same = ap (λ (state : State). state.store_refused) same

    stopped-same : one.stopped ≡ other.stopped
    stopped-same = ap (λ (state : State). state.stopped) same

    connects-same : one.connects ≡ other.connects
    connects-same = ap (λ (state : State). state.connects) same

    refused-same : (what : Act) → is_by group what ≡ true → refusal_of one what ≡ refusal_of other what
    refused-same (act.Connect user host) own =
        λ i. unless_store_refused (store-same i) (connect_refused (stopped-same i) (connects-same i))
    refused-same (act.Call session reference call) own = let row = session-same session own in
        λ i. unless_store_refused (store-same i) (call_refused (stopped-same i) (row i))
    refused-same (act.Broken session) own = let row = session-same session own in
        λ i. unless_store_refused (store-same i) (call_refused (stopped-same i) (row i))
    refused-same (act.Drain session) own = let row = session-same session own in
        λ i. unless_store_refused (store-same i) (drain_refused (row i))
    refused-same act.Flush own = λ i. unless_store_refused (store-same i) None
    refused-same (act.Close session) own = ap close_refused (session-same session own)

    given-same : (session : ℕ) → is_among group.sessions session ≡ true →
        given_from session one ≡ given_from session other
    given-same session own =
        let row = session-same session own in
        let stable = ap (λ (state : State). state.stable) same in
        λ i. items_of (take (drained_count (stable i) (waiting_in (row i))) (waiting_in (row i)))

  -- ---- what acts change of the rows of sessions
  map-appended : (rows : List Session) (last : Session) → erases (rows ++ last ∷ []) ≡ erases rows ++ erases (last ∷ [])
  map-appended [] last = refl
  map-appended (row ∷ rows) last = ap (λ (others : List Session). erased_session group row ∷ others)
      (map-appended rows last)

  -- the rows that a drain leaves
  abbrev drains : ℕ → ℕ → Session → Session
  drains session stable row = cond (is_session session row) (after_drain stable row) row

  drained-by : (stable : ℕ) (row : Session) (here own : Bool) → is_among group.sessions row.seat.number ≡ own →
      erased_session group (cond here (after_drain stable (cond own row (blank row))) (cond own row (blank row)))
      ≡ erased_session group (cond here (after_drain stable row) row)
  drained-by stable row here true is = refl
  drained-by stable row true false is = ap (λ b. cond b (after_drain stable (blank row)) (blank row)) is
      ∙ sym (ap (λ b. cond b (after_drain stable row) (blank row)) is)
  drained-by stable row false false is = ap (λ b. cond b (blank row) (blank row)) is
      ∙ sym (ap (λ b. cond b row (blank row)) is)

  drained-once : (session stable : ℕ) (row : Session) →
      erased_session group (drains session stable (erased_session group row))
      ≡ erased_session group (drains session stable row)
  drained-once session stable row =
      ap (λ n. erased_session group (cond (n == session) (after_drain stable (erased_session group row))
      (erased_session group row))) (number-erased row)
      ∙ drained-by stable row (row.seat.number == session) (is_among group.sessions row.seat.number) refl

  map-drained : (session stable : ℕ) (rows : List Session) →
      erases (map (drains session stable) (erases rows)) ≡ erases (map (drains session stable) rows)
  map-drained session stable [] = refl
  map-drained session stable (row ∷ rows) = ap₂ (λ (first : Session) (others : List Session). first ∷ others)
      (drained-once session stable row) (map-drained session stable rows)

  -- the rows that a close leaves
  abbrev leaves : ℕ → List Session → List Session
  leaves session rows = filter (λ row. not (is_session session row)) rows

  left-by : (here : Bool) (row : Session) (kept others : List Session) → erases kept ≡ others →
      erases (cond (not here) (row ∷ kept) kept) ≡ cond (not here) (erased_session group row ∷ others) others
  left-by true row kept others same = same
  left-by false row kept others same = ap (λ (others : List Session). erased_session group row ∷ others) same

  left-erased : (session : ℕ) (rows : List Session) → erases (leaves session rows) ≡ leaves session (erases rows)
  left-erased session [] = refl
  left-erased session (row ∷ rows) =
      left-by (row.seat.number == session) row (leaves session rows) (leaves session (erases rows))
      (left-erased session rows)
      ∙ ap (λ n. cond (not (n == session)) (erased_session group row ∷ leaves session (erases rows))
      (leaves session (erases rows))) (sym (number-erased row))

  module _ (one other : State) (same : erase group one ≡ erase group other) (pass moment number : ℕ) where
    -- the record of an act
    abbrev made : Act → Bool → Record
    made what short = record {
      entry = record { pass = pass; moment = moment; act = what };
      session = number;
      short = short;
    }

    abbrev AreSameAfter : Act → Bool → Type 0
    AreSameAfter what short = erase group (after one (made what short)) ≡ erase group (after other (made what short))

    connect-leaves : (user host : List ℕ) (short : Bool) → AreSameAfter (act.Connect user host) short
    connect-leaves user host short =
        let connects = connects-same one other same in
        let moments : moment_of one moment ≡ moment_of other moment =
        ap (λ (state : State). max state.moment moment) same in
        let between : erases one.sessions
        ++ erases (fresh_session (one.connects + 1) pass user host (moment_of one moment) ∷ [])
        ≡ erases other.sessions
        ++ erases (fresh_session (other.connects + 1) pass user host (moment_of other moment) ∷ []) =
        λ i. (same i).sessions ++ erases (fresh_session (connects i + 1) pass user host (moments i) ∷ []) in
        let rows = map-appended one.sessions (fresh_session (one.connects + 1) pass user host (moment_of one moment))
        ∙ between
        ∙ sym (map-appended other.sessions
        (fresh_session (other.connects + 1) pass user host (moment_of other moment))) in
        after-same group (made (act.Connect user host) short) one other same
        (λ i. record (same i) { sessions = rows i; connects = connects i + 1 }) refl refl
        (λ session own. ap (λ connects. items_for session (record { session = connects + 1; item = item.Hello } ∷ []))
        connects)

    broken-leaves : (session : ℕ) (short : Bool) → AreSameAfter (act.Broken session) short
    broken-leaves session short = after-same group (made (act.Broken session) short) one other same same refl refl
        (λ session own. refl)

    drain-leaves : (session : ℕ) (short : Bool) → AreSameAfter (act.Drain session) short
    drain-leaves session short =
        let stable : one.stable ≡ other.stable = ap (λ (state : State). state.stable) same in
        let between : erases (map (drains session one.stable) (erases one.sessions))
        ≡ erases (map (drains session other.stable) (erases other.sessions)) =
        λ i. erases (map (drains session (stable i)) (same i).sessions) in
        let rows = sym (map-drained session one.stable one.sessions) ∙ between
        ∙ map-drained session other.stable other.sessions in
        after-same group (made (act.Drain session) short) one other same
        (λ i. record (same i) { sessions = rows i }) refl refl (λ session own. refl)

    flush-leaves : (short : Bool) → AreSameAfter act.Flush short
    flush-leaves true = after-same group (made act.Flush true) one other same
        (λ i. record (same i) { store_refused = true }) refl refl (λ session own. refl)
    flush-leaves false =
        let entries : one.entries ≡ other.entries = ap (λ (state : State). state.entries) same in
        after-same group (made act.Flush false) one other same
        (λ i. record (same i) { stable = entries i }) refl refl (λ session own. refl)

    close-leaves : (session : ℕ) (short : Bool) → AreSameAfter (act.Close session) short
    close-leaves session short =
        let rows = left-erased session one.sessions
        ∙ ap (λ (state : State). leaves session state.sessions) same ∙ sym (left-erased session other.sessions) in
        after-same group (made (act.Close session) short) one other same
        (λ i. record (same i) { sessions = rows i }) refl refl (λ session own. refl)

    act-leaves : (what : Act) (short : Bool) → not (is_call what) ≡ true → AreSameAfter what short
    act-leaves (act.Connect user host) short no_call = connect-leaves user host short
    act-leaves (act.Call session reference call) short no_call = absurd (true≢false (sym no_call))
    act-leaves (act.Broken session) short no_call = broken-leaves session short
    act-leaves (act.Drain session) short no_call = drain-leaves session short
    act-leaves act.Flush short no_call = flush-leaves short
    act-leaves (act.Close session) short no_call = close-leaves session short

pub acts-erased : ActsStandErased
acts-erased = record {
  refused = λ group one other what same own. refused-same group one other same what own;
  given = λ group one other session same own. given-same group one other same session own;
  after = λ group one other made same no_call.
      act-leaves group one other same made.entry.pass made.entry.moment made.session made.entry.act made.short no_call;
}
