-- What queueing adds to the rows, by the entry that is made.
use Rattle.std.proofs.Common.{◌≡◌, ℕ, true, false, cond, List, [], ◌∷◌, ◌++◌, refl, sym, ap, ◌∙◌}
use Rattle.std.proofs.Common.{append_assoc}
use Rattle.std.proofs.lemmas.List.{append-nil}
use Rattle.kom_types.specs.declared.items.Item.{Item}
use Rattle.kom_types.specs.Sessions.{Waiting, Session, Limits, fits, queue}
use Rattle.kom_model.specs.State.{State}
use Rattle.kom_model.specs.Sending.{Delivery}
use Rattle.kom_model.specs.After.{with_session, queue_all}
use Rattle.kom_model.proofs.Order.{AllAt}
use Rattle.kom_model.proofs.Keeping.{KeepsRow, KeepsRows, KeepsRows-same, KeepsRows-changed}
use Rattle.kom_model.proofs.Keeping.{KeepsRows-then}

-- the entry at this place queued more
abbrev pub Grows : ℕ → List Waiting → List Waiting → Type 0
Grows place waiting waiting' = (more : List Waiting) × (waiting ++ more ≡ waiting') × AllAt place more

grows-same : (place : ℕ) (waiting : List Waiting) → Grows place waiting waiting
grows-same place waiting = ([], append-nil waiting, tt)

at-append : (place : ℕ) (one two : List Waiting) → AllAt place one → AllAt place two → AllAt place (one ++ two)
at-append place [] two first second = second
at-append place (item ∷ one) two first second = (first.0, at-append place one two first.1 second)

grows-then : (place : ℕ) (a b c : List Waiting) → Grows place a b → Grows place b c → Grows place a c
grows-then place a b c first second = (
  first.0 ++ second.0,
  sym (append_assoc a first.0 second.0) ∙ ap (λ w. w ++ second.0) first.1 ∙ second.1,
  at-append place first.0 second.0 first.2 second.2,
)

-- queueing one item adds it or nothing
pub queued-grows : (limits : Limits) (place : ℕ) (item : Item) (row : Session) →
    KeepsRow (Grows place) row (queue limits place item row)
queued-grows limits place item row =
    elim row.overrun as (λ b. KeepsRow (Grows place) row (cond b row
    (cond (fits limits row.waiting item)
    (record row { waiting = row.waiting ++ record { item = item; entry = place } ∷ [] })
    (record row { overrun = true })))) [
      | true ↦ (refl, grows-same place row.waiting)
      | false ↦ elim (fits limits row.waiting item) as (λ b. KeepsRow (Grows place) row (cond b
          (record row { waiting = row.waiting ++ record { item = item; entry = place } ∷ [] })
          (record row { overrun = true }))) [
            | true ↦ (refl, (record { item = item; entry = place } ∷ [], refl, (refl, tt)))
            | false ↦ (refl, grows-same place row.waiting)
          ]
    ]

-- queueing changes the rows of sessions alone
pub queue_all-rows : (limits : Limits) (deliveries : List Delivery) (state : State) →
    queue_all limits deliveries state ≡ record state { sessions = (queue_all limits deliveries state).sessions }
queue_all-rows limits [] state = refl
queue_all-rows limits (delivery ∷ deliveries) state =
    queue_all-rows limits deliveries
    (with_session delivery.session (queue limits state.entries delivery.item) state)

-- and only adds to what waits
pub queue_all-grows : (limits : Limits) (deliveries : List Delivery) (state : State) →
    KeepsRows (Grows state.entries) state.sessions (queue_all limits deliveries state).sessions
queue_all-grows limits [] state = KeepsRows-same (Grows state.entries) (grows-same state.entries) state.sessions
queue_all-grows limits (delivery ∷ deliveries) state =
    let place : ℕ = state.entries in
    let next : State = with_session delivery.session (queue limits place delivery.item) state in
    KeepsRows-then (Grows place) (Grows place) (Grows place) (grows-then place) state.sessions next.sessions
    (queue_all limits deliveries next).sessions
    (KeepsRows-changed (Grows place) (grows-same place) delivery.session (queue limits place delivery.item)
    (queued-grows limits place delivery.item) state.sessions)
    (queue_all-grows limits deliveries next)
