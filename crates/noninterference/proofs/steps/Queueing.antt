-- What waits for the sessions of a group hangs on what is delivered to them alone.
use Rattle.std.proofs.Common.{◌≡◌, ℕ, Bool, true, false, cond, ◌==◌, List, [], ◌∷◌, refl, sym, ap, ap₂, ◌∙◌}
use Rattle.std.specs.Prelude.{map, filter}
use Rattle.kom_types.specs.declared.items.Item.{Item}
use Rattle.kom_types.specs.declared.seats.Seat.{Seat}
use Rattle.kom_types.specs.Sessions.{Session, Limits, queue, fits, with_waiting}
use Rattle.kom_model.specs.After.{queue_all, with_session}
use Rattle.kom_model.specs.Kinds.{is_among}
use Rattle.kom_model.specs.Sending.{Delivery}
use Rattle.kom_model.specs.State.{State}
use Rattle.kom_laws.specs.Groups.{Group}
use Rattle.kom_laws.specs.Erasing.{erased_session}

-- the items that are delivered to a session
abbrev pub items_for : ℕ → List Delivery → List Item
items_for number deliveries = map (λ one. one.item) (filter (λ one. number == one.session) deliveries)

-- the row of a session after items were queued
abbrev queue_row : Limits → ℕ → List Item → Session → Session
queue_row limits entry [] row = row
queue_row limits entry (item ∷ items) row = queue_row limits entry items (queue limits entry item row)

seat-queued : (limits : Limits) (entry : ℕ) (item : Item) (row : Session) →
    (queue limits entry item row).seat ≡ row.seat
seat-queued limits entry item row = by row.overrun (fits limits row.waiting item) where
  by : (overrun room : Bool) → (cond overrun row (cond room (with_waiting item entry row)
      (record row { overrun = true }))).seat ≡ row.seat
  by true room = refl
  by false true = refl
  by false false = refl

pub seat-row : (limits : Limits) (entry : ℕ) (items : List Item) (row : Session) →
    (queue_row limits entry items row).seat ≡ row.seat
seat-row limits entry [] row = refl
seat-row limits entry (item ∷ items) row =
    seat-row limits entry items (queue limits entry item row) ∙ seat-queued limits entry item row

map-twice : {X : Type 0} (f g h : X → X) → ((row : X) → f (g row) ≡ h row) → (rows : List X) →
    map f (map g rows) ≡ map h rows
map-twice f g h same [] = refl
map-twice {X} f g h same (row ∷ rows) =
    ap₂ (λ (first : X) (others : List X). first ∷ others) (same row) (map-twice f g h same rows)

map-same : {X : Type 0} (f g : X → X) → ((row : X) → f row ≡ g row) → (rows : List X) → map f rows ≡ map g rows
map-same f g same [] = refl
map-same {X} f g same (row ∷ rows) =
    ap₂ (λ (first : X) (others : List X). first ∷ others) (same row) (map-same f g same rows)

module _ (limits : Limits) (entry : ℕ) where
  abbrev fills : List Delivery → Session → Session
  fills deliveries row = queue_row limits entry (items_for row.seat.number deliveries) row

  -- one item more, first
  fills-first : (one : Delivery) (deliveries : List Delivery) (row : Session) →
      fills deliveries (cond (row.seat.number == one.session) (queue limits entry one.item row) row)
      ≡ fills (one ∷ deliveries) row
  fills-first one deliveries row = by (row.seat.number == one.session) where
    by : (here : Bool) → fills deliveries (cond here (queue limits entry one.item row) row)
        ≡ queue_row limits entry (map (λ (one : Delivery). one.item)
        (cond here (one ∷ filter (λ one. row.seat.number == one.session) deliveries)
        (filter (λ one. row.seat.number == one.session) deliveries))) row
    by true = ap (λ (seat : Seat). queue_row limits entry (items_for seat.number deliveries)
        (queue limits entry one.item row)) (seat-queued limits entry one.item row)
    by false = refl

  -- what queueing makes of all rows
  pub rows-filled : (deliveries : List Delivery) (state : State) → state.entries ≡ entry →
      (queue_all limits deliveries state).sessions ≡ map (fills deliveries) state.sessions
  rows-filled [] state at = sym (map-id state.sessions) where
    map-id : (rows : List Session) → map (λ row. row) rows ≡ rows
    map-id [] = refl
    map-id (row ∷ rows) = ap (λ others. row ∷ others) (map-id rows)
  rows-filled (one ∷ deliveries) state at =
      rows-filled deliveries (with_session one.session (queue limits state.entries one.item) state) at
      ∙ ap (λ place. map (fills deliveries) (map (λ (row : Session). cond (row.seat.number == one.session)
      (queue limits place one.item row) row) state.sessions)) at
      ∙ map-twice (fills deliveries)
      (λ (row : Session). cond (row.seat.number == one.session) (queue limits entry one.item row) row)
      (fills (one ∷ deliveries)) (fills-first one deliveries) state.sessions

-- a row without what waits
abbrev blank : Session → Session
blank row = record row { waiting = []; overrun = false }

module _ (group : Group) (limits : Limits) (entry : ℕ) where
  -- what stays of a row after queueing: what came to the group
  abbrev keeps : List Delivery → Session → Session
  keeps deliveries row = cond (is_among group.sessions row.seat.number) (fills limits entry deliveries row)
      (record row { waiting = []; overrun = false })

  erased-filled : (deliveries : List Delivery) (row : Session) →
      erased_session group (fills limits entry deliveries row) ≡ keeps deliveries row
  erased-filled deliveries row =
      let seat : (fills limits entry deliveries row).seat ≡ row.seat =
      seat-row limits entry (items_for row.seat.number deliveries) row in
      λ i. cond (is_among group.sessions (seat i).number) (fills limits entry deliveries row)
      (record { seat = seat i; waiting = []; overrun = false })

  keeps-erased : (deliveries : List Delivery) (row : Session) →
      keeps deliveries (erased_session group row) ≡ keeps deliveries row
  keeps-erased deliveries row = by (is_among group.sessions row.seat.number) refl where
    by : (own : Bool) → is_among group.sessions row.seat.number ≡ own → keeps deliveries (cond own row (blank row))
        ≡ cond own (fills limits entry deliveries row) (blank row)
    by true is = ap (λ b. cond b (fills limits entry deliveries row) (blank row)) is
    by false is = ap (λ b. cond b (fills limits entry deliveries (blank row)) (blank row)) is

  keeps-same : (deliveries deliveries' : List Delivery) → ((number : ℕ) → is_among group.sessions number ≡ true →
      items_for number deliveries ≡ items_for number deliveries') → (row : Session) →
      keeps deliveries row ≡ keeps deliveries' row
  keeps-same deliveries deliveries' items row =
      by (is_among group.sessions row.seat.number) (items row.seat.number) where
        by : (own : Bool) →
            (own ≡ true → items_for row.seat.number deliveries ≡ items_for row.seat.number deliveries') →
            cond own (fills limits entry deliveries row) (record row { waiting = []; overrun = false })
            ≡ cond own (fills limits entry deliveries' row) (record row { waiting = []; overrun = false })
        by true items = ap (λ items. queue_row limits entry items row) (items refl)
        by false items = refl

  -- the same rows but for what is hidden, and the same items for the group, leave the same rows but for that
  pub rows-erased : (one other : State) (deliveries deliveries' : List Delivery) →
      one.entries ≡ entry → other.entries ≡ entry →
      map (erased_session group) one.sessions ≡ map (erased_session group) other.sessions →
      ((number : ℕ) → is_among group.sessions number ≡ true →
      items_for number deliveries ≡ items_for number deliveries') →
      map (erased_session group) (queue_all limits deliveries one).sessions
      ≡ map (erased_session group) (queue_all limits deliveries' other).sessions
  rows-erased one other deliveries deliveries' at at' same items =
      ap (map (erased_session group)) (rows-filled limits entry deliveries one at)
      ∙ map-twice (erased_session group) (fills limits entry deliveries) (keeps deliveries) (erased-filled deliveries)
      one.sessions
      ∙ sym (map-twice (keeps deliveries) (erased_session group) (keeps deliveries) (keeps-erased deliveries)
      one.sessions)
      ∙ ap (map (keeps deliveries)) same
      ∙ map-twice (keeps deliveries) (erased_session group) (keeps deliveries) (keeps-erased deliveries)
      other.sessions
      ∙ map-same (keeps deliveries) (keeps deliveries') (keeps-same deliveries deliveries' items) other.sessions
      ∙ sym (map-twice (erased_session group) (fills limits entry deliveries') (keeps deliveries')
      (erased-filled deliveries') other.sessions)
      ∙ sym (ap (map (erased_session group)) (rows-filled limits entry deliveries' other at'))
