-- Rows that keep the numbers of their sessions, the passes that connected them, and that a call ended them.
use Rattle.std.proofs.Common.{◌≡◌, ℕ, ◌≤◌, true, false, cond, eqb, List, [], ◌∷◌, ◌++◌, map, Option, Some, refl, ap}
use Rattle.std.proofs.Common.{◌∙◌, inl, inr, arith, ◌==◌}
use Rattle.std.specs.List.{find, AllByRecursion}
use Rattle.std.proofs.lemmas.Bool.{cases_Bool}
use Rattle.kom_types.specs.declared.items.Item.{Item}
use Rattle.kom_types.specs.declared.seats.Seat.{Seat}
use Rattle.kom_types.specs.declared.session_changes.SessionChange.{SessionChange}
use Rattle.kom_types.specs.declared.session_changes.SessionChange.TheVariants as change
use Rattle.kom_types.specs.Sessions.{Session, Limits, is_session, fits, queue, changed_session, changed_seat}
use Rattle.kom_types.specs.Sessions.{after_change}
use Rattle.kom_types.specs.Sessions.{with_invisible}
use Rattle.kom_model.specs.State.{State}
use Rattle.kom_model.specs.Sending.{Delivery}
use Rattle.kom_model.specs.After.{with_session, queue_all, make_change, make_changes}
use Rattle.kom_model.proofs.Finding.{changed_row}

abbrev pub KeepsSeat : Session → Session → Type 0
KeepsSeat row row' = (row'.seat.number ≡ row.seat.number) × (row'.seat.pass ≡ row.seat.pass)
    × (row.seat.ended ≡ true → row'.seat.ended ≡ true)

-- all rows so, in order
abbrev pub KeepsSeats : List Session → List Session → Type 0
KeepsSeats [] [] = Unit {0}
KeepsSeats [] (row' ∷ rows') = ⊥
KeepsSeats (row ∷ rows) [] = ⊥
KeepsSeats (row ∷ rows) (row' ∷ rows') = KeepsSeat row row' × KeepsSeats rows rows'

pub seats-same : (rows : List Session) → KeepsSeats rows rows
seats-same [] = tt
seats-same (row ∷ rows) = ((refl, refl, λ ended. ended), seats-same rows)

pub seats-then : (rows rows' rows'' : List Session) → KeepsSeats rows rows' → KeepsSeats rows' rows'' →
    KeepsSeats rows rows''
seats-then [] [] [] one two = tt
seats-then (row ∷ rows) (row' ∷ rows') (row'' ∷ rows'') one two = (
  (two.0.0 ∙ one.0.0, two.0.1 ∙ one.0.1, λ ended. two.0.2 (one.0.2 ended)),
  seats-then rows rows' rows'' one.1 two.1,
)
seats-then [] [] (row'' ∷ rows'') one two = absurd two
seats-then [] (row' ∷ rows') rows'' one two = absurd one
seats-then (row ∷ rows) [] rows'' one two = absurd one
seats-then (row ∷ rows) (row' ∷ rows') [] one two = absurd two

-- a change of one session's row
pub seats-changed : (number : ℕ) (change : Session → Session) → ((row : Session) → KeepsSeat row (change row)) →
    (rows : List Session) → KeepsSeats rows (map (changed_row number change) rows)
seats-changed number change keeps [] = tt
seats-changed number change keeps (row ∷ rows) = (
  elim (is_session number row) as (λ b. KeepsSeat row (cond b (change row) row)) [
    | true ↦ keeps row
    | false ↦ (refl, refl, λ ended. ended)
  ],
  seats-changed number change keeps rows,
)

-- ---- what an act sends, and the changes of a call

seat-queued : (limits : Limits) (place : ℕ) (item : Item) (row : Session) →
    KeepsSeat row (queue limits place item row)
seat-queued limits place item row =
    elim row.overrun as (λ b. KeepsSeat row (cond b row
    (cond (fits limits row.waiting item)
    (record row { waiting = row.waiting ++ record { item = item; entry = place } ∷ [] })
    (record row { overrun = true })))) [
      | true ↦ (refl, refl, λ ended. ended)
      | false ↦ elim (fits limits row.waiting item) as (λ b. KeepsSeat row (cond b
          (record row { waiting = row.waiting ++ record { item = item; entry = place } ∷ [] })
          (record row { overrun = true }))) [
            | true ↦ (refl, refl, λ ended. ended)
            | false ↦ (refl, refl, λ ended. ended)
          ]
    ]

pub seats-queued : (limits : Limits) (deliveries : List Delivery) (state : State) →
    KeepsSeats state.sessions (queue_all limits deliveries state).sessions
seats-queued limits [] state = seats-same state.sessions
seats-queued limits (delivery ∷ deliveries) state =
    let next : State = with_session delivery.session (queue limits state.entries delivery.item) state in
    seats-then state.sessions next.sessions (queue_all limits deliveries next).sessions
    (seats-changed delivery.session (queue limits state.entries delivery.item)
    (seat-queued limits state.entries delivery.item) state.sessions)
    (seats-queued limits deliveries next)

abbrev KeepsIn : Seat → Seat → Type 0
KeepsIn seat seat' = (seat'.number ≡ seat.number) × (seat'.pass ≡ seat.pass)
    × (seat.ended ≡ true → seat'.ended ≡ true)

seat-changed : (what : SessionChange) (moment : ℕ) (seat : Seat) → KeepsIn seat (changed_seat what moment seat)
seat-changed (change.Person session person invisible) moment seat =
    let seated : Seat = record seat {
      person = person;
      level = 0;
      working = 0;
      flags = with_invisible invisible seat.flags;
    } in
    let logged_in : Seat = record seated { login = moment; active = moment } in
    elim (person == 0) as (λ b. KeepsIn seat (cond b seated logged_in)) [
      | true ↦ (refl, refl, λ ended. ended)
      | false ↦ (refl, refl, λ ended. ended)
    ]
seat-changed (change.Level session level) moment seat = (refl, refl, λ ended. ended)
seat-changed (change.Working session conference) moment seat = (refl, refl, λ ended. ended)
seat-changed (change.Doing session doing) moment seat = (refl, refl, λ ended. ended)
seat-changed (change.Client session client version) moment seat = (refl, refl, λ ended. ended)
seat-changed (change.Accept session accepted) moment seat = (refl, refl, λ ended. ended)
seat-changed (change.Active session) moment seat = (refl, refl, λ ended. ended)
seat-changed (change.Ended session) moment seat = (refl, refl, λ ended. refl)
seat-changed change.Stop moment seat = (refl, refl, λ ended. ended)

pub seats-changes : (moment : ℕ) (changes : List SessionChange) (state : State) →
    KeepsSeats state.sessions (make_changes moment changes state).sessions
seats-changes moment [] state = seats-same state.sessions
seats-changes moment (what ∷ changes) state =
    let next : State = make_change moment what state in
    seats-then state.sessions next.sessions (make_changes moment changes next).sessions
    (seats-changed (changed_session what) (after_change what moment) (λ row. seat-changed what moment row.seat)
    state.sessions)
    (seats-changes moment changes next)

-- ---- what such rows keep

abbrev pub AllDrawn : ℕ → List Session → Type 0
AllDrawn bound = AllByRecursion (λ row. row.seat.number ≤ bound)

pub drawn-seats : (bound : ℕ) (rows rows' : List Session) → KeepsSeats rows rows' → AllDrawn bound rows →
    AllDrawn bound rows'
drawn-seats bound [] [] kept all = tt
drawn-seats bound [] (row' ∷ rows') kept all = absurd kept
drawn-seats bound (row ∷ rows) [] kept all = absurd kept
drawn-seats bound (row ∷ rows) (row' ∷ rows') kept all =
    (omega (arith, kept.0.0, all.0), drawn-seats bound rows rows' kept.1 all.1)

-- the session has a row, and this pass connected it
abbrev pub IsOwned : ℕ → ℕ → Option Session → Type 0
IsOwned n pass found = (row : Session) × (found ≡ Some row) × (row.seat.pass ≡ pass)

pub owned-seats : (n pass : ℕ) (rows rows' : List Session) → KeepsSeats rows rows' →
    IsOwned n pass (find (is_session n) rows) → IsOwned n pass (find (is_session n) rows')
owned-seats n pass [] [] kept owned = owned
owned-seats n pass [] (row' ∷ rows') kept owned = absurd kept
owned-seats n pass (row ∷ rows) [] kept owned = absurd kept
owned-seats n pass (row ∷ rows) (row' ∷ rows') kept owned =
    elim (cases_Bool (eqb row.seat.number n)) [
      | inl here ↦
          let here' : eqb row'.seat.number n ≡ true = ap (λ k. eqb k n) kept.0.0 ∙ here in
          let found : Some row ≡ Some owned.0 = rw here at owned.1 in
          let same : row ≡ owned.0 = cc in
          rw here' (row', refl, kept.0.1 ∙ ap (λ (row : Session). row.seat.pass) same ∙ owned.2)
      | inr there ↦
          let there' : eqb row'.seat.number n ≡ false = ap (λ k. eqb k n) kept.0.0 ∙ there in
          rw there' (owned-seats n pass rows rows' kept.1 (rw there at owned))
    ]

-- the session has a row, and a call ended it
abbrev pub IsEnded : Option Session → Type 0
IsEnded found = (row : Session) × (found ≡ Some row) × (row.seat.ended ≡ true)

pub ended-seats : (n : ℕ) (rows rows' : List Session) → KeepsSeats rows rows' →
    IsEnded (find (is_session n) rows) → IsEnded (find (is_session n) rows')
ended-seats n [] [] kept ended = ended
ended-seats n [] (row' ∷ rows') kept ended = absurd kept
ended-seats n (row ∷ rows) [] kept ended = absurd kept
ended-seats n (row ∷ rows) (row' ∷ rows') kept ended =
    elim (cases_Bool (eqb row.seat.number n)) [
      | inl here ↦
          let here' : eqb row'.seat.number n ≡ true = ap (λ k. eqb k n) kept.0.0 ∙ here in
          let found : Some row ≡ Some ended.0 = rw here at ended.1 in
          let same : row ≡ ended.0 = cc in
          rw here' (row', refl, kept.0.2 (ap (λ (row : Session). row.seat.ended) same ∙ ended.2))
      | inr there ↦
          let there' : eqb row'.seat.number n ≡ false = ap (λ k. eqb k n) kept.0.0 ∙ there in
          rw there' (ended-seats n rows rows' kept.1 (rw there at ended))
    ]
