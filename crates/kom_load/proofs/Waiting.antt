-- What holds of the items that wait for sessions, as acts are made.
use Rattle.std.proofs.Common.{ℕ, ◌+◌, ◌<◌, true, false, cond, List, [], ◌∷◌, ◌++◌, map, take, drop, find}
use Rattle.std.proofs.Common.{zero, suc, length, get_or, Option, Some, None, option_map, arith}
use Rattle.std.specs.Prelude.{flat_map, filter_map, ◌||◌, ◌==◌, not}
use Rattle.std.specs.List.{AllByRecursion, cons_option}
use Rattle.std.proofs.lemmas.Bool.{cond_both}
use Rattle.kom_types.specs.declared.acts.Act.{Act}
use Rattle.kom_types.specs.declared.acts.Act.TheVariants as act
use Rattle.kom_types.specs.declared.calls.Call.{Call}
use Rattle.kom_types.specs.declared.decisions.Decision.{Decision}
use Rattle.kom_types.specs.declared.items.Item.{Item}
use Rattle.kom_types.specs.declared.items.Item.TheVariants as item
use Rattle.kom_types.specs.declared.messages.Message.{Message}
use Rattle.kom_types.specs.declared.seats.Seat.{Seat}
use Rattle.kom_types.specs.declared.session_changes.SessionChange.{SessionChange}
use Rattle.kom_types.specs.Sessions.{Waiting, Session, Limits, waiting_limits, is_session, fits, queue, with_waiting}
use Rattle.kom_types.specs.Sessions.{after_change, changed_session, fresh_session, drained_count}
use Rattle.kom_types.specs.Sessions as Sessions
use Rattle.kom_model.specs.Db.{Db}
use Rattle.kom_model.specs.State.{State}
use Rattle.kom_model.specs.After.{with_session, queue_all, make_change, make_changes, carry_out, moment_of, decision_at}
use Rattle.kom_model.specs.After.{after, with_connected, call_deliveries}
use Rattle.kom_model.specs.Decide.{asked_in}
use Rattle.kom_model.specs.Effects.{apply_all}
use Rattle.kom_model.specs.Out.{waiting_in, waiting_for, taken_by, given_from, drained_from}
use Rattle.kom_model.specs.Refusal.{refusal_of}
use Rattle.kom_model.specs.Sending.{Delivery, Sending, accepts, delivery_to, delivered_to}
use Rattle.kom_model.specs.ToWhom.{messages_of, sendings}
use Rattle.kom_model.specs.Viewers.{viewer_of}
use Rattle.kom_model.specs.calls.Call.{Asked}
use Rattle.kom_load.specs.Loading.{record_of}

-- ---- what holds of all of a list
module _ {X : Type 0} (P : X → Type 0) where
  pub all_appended : (xs ys : List X) → AllByRecursion P xs → AllByRecursion P ys → AllByRecursion P (xs ++ ys)
  all_appended [] ys all more = more
  all_appended (x ∷ xs) ys all more = (all.0, all_appended xs ys all.1 more)

  all_taken : (n : ℕ) (xs : List X) → AllByRecursion P xs → AllByRecursion P (take n xs)
  all_taken zero xs all = tt
  all_taken (suc n) [] all = tt
  all_taken (suc n) (x ∷ xs) all = (all.0, all_taken n xs all.1)

  all_dropped : (n : ℕ) (xs : List X) → AllByRecursion P xs → AllByRecursion P (drop n xs)
  all_dropped zero xs all = all
  all_dropped (suc n) [] all = tt
  all_dropped (suc n) (x ∷ xs) all = all_dropped n xs all.1

  pub holds_at : (xs : List X) (k : ℕ) (default : X) → k < length xs → AllByRecursion P xs → P (get_or xs k default)
  holds_at [] k default less all = absurd (omega (arith, less))
  holds_at (x ∷ xs) zero default less all = all.0
  holds_at (x ∷ xs) (suc k) default less all = holds_at xs k default (omega (arith, less)) all.1

  all_changed : (change : X → X) → ((x : X) → P x → P (change x)) → (xs : List X) → AllByRecursion P xs →
      AllByRecursion P (map change xs)
  all_changed change keeps [] all = tt
  all_changed change keeps (x ∷ xs) all = (keeps x all.0, all_changed change keeps xs all.1)

  all_flat : {Y : Type 0} (f : Y → List X) → ((y : Y) → AllByRecursion P (f y)) → (ys : List Y) →
      AllByRecursion P (flat_map f ys)
  all_flat f each [] = tt
  all_flat f each (y ∷ ys) = all_appended (f y) (flat_map f ys) (each y) (all_flat f each ys)

-- the state once pass 0 has made this act at this moment, and memory sufficed
abbrev pub stepped : ℕ → ℕ → Act → State → State
stepped moment session what state = after state (record_of moment session what)

abbrev OfSome : {X : Type 0} → (X → Type 0) → Option X → Type 0
OfSome P found = elim found [ None ↦ Unit {0} | Some x ↦ P x ]

all_some : {X Y : Type 0} (P : X → Type 0) (f : Y → Option X) → ((y : Y) → OfSome P (f y)) → (ys : List Y) →
    AllByRecursion P (filter_map f ys)
all_some P f each [] = tt
all_some {X} P f each (y ∷ ys) = by (f y) (each y) (all_some P f each ys)
  where
    by : (found : Option X) → OfSome P found → AllByRecursion P (filter_map f ys) →
        AllByRecursion P (cons_option found (filter_map f ys))
    by None here rest = rest
    by (Some x) here rest = (here, rest)

-- ---- what holds of all that waits
module _ (Q : Item → Type 0) where
  abbrev pub Holds : Session → Type 0
  Holds session = AllByRecursion (λ one. Q one.item) session.waiting

  abbrev pub AllHold : State → Type 0
  AllHold state = AllByRecursion Holds state.sessions

  abbrev AllSent : List Delivery → Type 0
  AllSent deliveries = AllByRecursion (λ delivery. Q delivery.item) deliveries

  with_session-holds : (number : ℕ) (change : Session → Session) → ((row : Session) → Holds row → Holds (change row)) →
      (state : State) → AllHold state → AllHold (with_session number change state)
  with_session-holds number change keeps state all =
      all_changed Holds (λ row. cond (is_session number row) (change row) row)
      (λ row here. cond_both (is_session number row) (change row) row Holds (λ _. keeps row here) (λ _. here))
      state.sessions all

  queued-holds : (limits : Limits) (place : ℕ) (what : Item) → Q what → (row : Session) → Holds row →
      Holds (queue limits place what row)
  queued-holds limits place what is row here =
      cond_both row.overrun row
      (cond (fits limits row.waiting what) (with_waiting what place row) (record row { overrun = true })) Holds
      (λ _. here)
      (λ _. cond_both (fits limits row.waiting what) (with_waiting what place row) (record row { overrun = true }) Holds
      (λ _. all_appended (λ one. Q one.item) row.waiting (record { item = what; entry = place } ∷ []) here (is, tt))
      (λ _. here))

  queue_all-holds : (limits : Limits) (deliveries : List Delivery) (state : State) → AllSent deliveries →
      AllHold state → AllHold (queue_all limits deliveries state)
  queue_all-holds limits [] state sent all = all
  queue_all-holds limits (delivery ∷ deliveries) state sent all =
      queue_all-holds limits deliveries
      (with_session delivery.session (queue limits state.entries delivery.item) state) sent.1
      (with_session-holds delivery.session (queue limits state.entries delivery.item)
      (queued-holds limits state.entries delivery.item sent.0) state all)

  make_changes-hold : (moment : ℕ) (changes : List SessionChange) (state : State) → AllHold state →
      AllHold (make_changes moment changes state)
  make_changes-hold moment [] state all = all
  make_changes-hold moment (what ∷ changes) state all =
      make_changes-hold moment changes (make_change moment what state)
      (with_session-holds (changed_session what) (after_change what moment) (λ row here. here) state all)

  -- ---- what a call sends
  module _ (messages : (message : Message) → Q (item.Message message)) where
    delivered-holds : (db : Db) (sending : Sending) (seat : Seat) →
        OfSome (λ delivery. Q delivery.item) (delivery_to db sending seat)
    delivered-holds db sending seat =
        cond_both (seat.person == 0 || not (accepts sending.number seat)) None
        (option_map (λ message. record { session = seat.number; item = item.Message message })
        (sending.told (viewer_of db seat))) (OfSome (λ delivery. Q delivery.item)) (λ _. tt)
        (λ _. by (sending.told (viewer_of db seat)))
      where
        by : (told : Option Message) → OfSome (λ (delivery : Delivery). Q delivery.item)
            (option_map (λ message. record { session = seat.number; item = item.Message message }) told)
        by None = tt
        by (Some message) = messages message

    messages-hold : (asked : Asked) (what : Call) (decision : Decision) → AllSent (messages_of asked what decision)
    unfolding messages_of
    messages-hold asked what decision =
        all_flat (λ delivery. Q delivery.item) (delivered_to asked.db asked.seats)
        (λ sending. all_some (λ delivery. Q delivery.item) (delivery_to asked.db sending)
        (delivered-holds asked.db sending) asked.seats) (sendings asked what decision)

    -- ---- acts
    pub call-holds : (moment session reference : ℕ) (what : Call) (state : State) →
        Q (item.Reply reference (decision_at state moment session reference what).reply) → AllHold state →
        AllHold (stepped moment session (act.Call session reference what) state)
    call-holds moment session reference what state replied all =
        let decision = decision_at state moment session reference what in
        let asked = asked_in state (moment_of state moment) session reference in
        queue_all-holds waiting_limits (call_deliveries state moment session reference what false)
        (carry_out (moment_of state moment) decision state)
        (all_appended (λ (delivery : Delivery). Q delivery.item) (messages_of asked what decision)
        (record { session = session; item = item.Reply reference decision.reply } ∷ [])
        (messages-hold asked what decision) (replied, tt))
        (make_changes-hold (moment_of state moment) decision.changes
        (record state { db = apply_all decision.effects state.db }) all)

  pub connect-holds : (moment session : ℕ) (user host : List ℕ) (state : State) → Q item.Hello → AllHold state →
      AllHold (stepped moment session (act.Connect user host) state)
  connect-holds moment session user host state greeted all =
      queue_all-holds waiting_limits (record { session = state.connects + 1; item = item.Hello } ∷ [])
      (with_connected 0 (moment_of state moment) user host state) (greeted, tt)
      (all_appended Holds state.sessions
      (fresh_session (state.connects + 1) 0 user host (moment_of state moment) ∷ []) all (tt, tt))

  pub flush-holds : (moment : ℕ) (state : State) → AllHold state → AllHold (stepped moment 0 act.Flush state)
  flush-holds moment state all = all

  pub drain-holds : (moment : ℕ) (state : State) → AllHold state → AllHold (stepped moment 1 (act.Drain 1) state)
  drain-holds moment state all =
      with_session-holds 1 (Sessions.after_drain state.stable)
      (λ row here. all_dropped (λ one. Q one.item) (drained_count state.stable row.waiting) row.waiting here) state all

  -- what is taken of what waits
  found-holds : (number : ℕ) (rows : List Session) → AllByRecursion Holds rows →
      AllByRecursion (λ one. Q one.item) (waiting_in (find (is_session number) rows))
  found-holds number [] all = tt
  found-holds number (row ∷ rows) all =
      cond_both (is_session number row) (Some row) (find (is_session number) rows)
      (λ found. AllByRecursion (λ one. Q one.item) (waiting_in found)) (λ _. all.0)
      (λ _. found-holds number rows all.1)

  items-hold : (waiting : List Waiting) → AllByRecursion (λ one. Q one.item) waiting →
      AllByRecursion Q (map (λ one. one.item) waiting)
  items-hold [] all = tt
  items-hold (one ∷ waiting) all = (all.0, items-hold waiting all.1)

  pub taken-holds : (number : ℕ) (state : State) → AllHold state → AllByRecursion Q (taken_by state (act.Drain number))
  taken-holds number state all =
      elim (refusal_of state (act.Drain number)) as (λ refusal. AllByRecursion Q (elim refusal [
        | None ↦ given_from number state
        | Some why ↦ []
      ])) [
        | None ↦ items-hold (drained_from number state)
            (all_taken (λ one. Q one.item) (drained_count state.stable (waiting_for number state))
            (waiting_for number state) (found-holds number state.sessions all))
        | Some why ↦ tt
      ]
