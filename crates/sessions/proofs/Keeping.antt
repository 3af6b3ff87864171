-- What happens to a session keeps its number.
use Rattle.std.proofs.Common.{◌≡◌, ℕ, ◌++◌, ◌∷◌, [], Bool, true, false, cond, eqb, refl}
use Rattle.kom_types.specs.declared.items.Item.{Item}
use Rattle.kom_types.specs.declared.seats.Seat.{Seat}
use Rattle.kom_types.specs.declared.session_changes.SessionChange.{SessionChange}
use Rattle.kom_types.specs.declared.session_changes.SessionChange.TheVariants as change
use Rattle.kom_types.specs.Sessions.{Session, Limits, fits, queue, after_drain, after_change, with_person}
use Rattle.kom_types.specs.Sessions.{with_invisible}
use Rattle.sessions.proofs.Accepted.{KeepsAccepted}
use Rattle.sessions.proofs.Rising.{number_of, KeepsNumbers}

abbrev accepted_of : Session → ℕ
accepted_of row = row.seat.accepted

pub queued_keeps : (limits : Limits) (entry : ℕ) (item : Item) → KeepsNumbers (queue limits entry item)
queued_keeps limits entry item row =
    let more : Session = record row { waiting = row.waiting ++ record { item = item; entry = entry } ∷ [] } in
    let over : Session = record row { overrun = true } in
    elim row.overrun as (λ b. number_of (cond b row (cond (fits limits row.waiting item) more over)) ≡ number_of row) [
      | true ↦ refl
      | false ↦ elim (fits limits row.waiting item) as (λ b. number_of (cond b more over) ≡ number_of row) [
        | true ↦ refl
        | false ↦ refl
      ]
    ]

-- what happens to a session but for a change keeps what it accepts
pub queued_silent : (limits : Limits) (entry : ℕ) (item : Item) → KeepsAccepted (queue limits entry item)
queued_silent limits entry item row =
    let more : Session = record row { waiting = row.waiting ++ record { item = item; entry = entry } ∷ [] } in
    let over : Session = record row { overrun = true } in
    elim row.overrun as (λ b. accepted_of (cond b row (cond (fits limits row.waiting item) more over)) ≡ accepted_of
    row) [
      | true ↦ refl
      | false ↦ elim (fits limits row.waiting item) as (λ b. accepted_of (cond b more over) ≡ accepted_of row) [
        | true ↦ refl
        | false ↦ refl
      ]
    ]

pub drained_keeps : (below : ℕ) → KeepsNumbers (after_drain below)
drained_keeps below row = refl

person_keeps : (person : ℕ) (invisible : Bool) (moment : ℕ) (seat : Seat) →
    (with_person person invisible moment seat).number ≡ seat.number
person_keeps person invisible moment seat =
    let flags : ℕ = with_invisible invisible seat.flags in
    let seated : Seat = record seat { person = person; level = 0; working = 0; flags = flags } in
    let in_person : Seat = record seated { login = moment; active = moment } in
    elim (eqb person 0) as (λ b. (let held : Seat = cond b seated in_person in held.number) ≡ seat.number) [
      | true ↦ refl
      | false ↦ refl
    ]

pub changed_keeps : (what : SessionChange) (moment : ℕ) → KeepsNumbers (after_change what moment)
changed_keeps (change.Person session person invisible) moment row = person_keeps person invisible moment row.seat
changed_keeps (change.Level session level) moment row = refl
changed_keeps (change.Working session conference) moment row = refl
changed_keeps (change.Doing session doing) moment row = refl
changed_keeps (change.Client session client version) moment row = refl
changed_keeps (change.Accept session accepted) moment row = refl
changed_keeps (change.Active session) moment row = refl
changed_keeps (change.Ended session) moment row = refl
changed_keeps change.Stop moment row = refl
