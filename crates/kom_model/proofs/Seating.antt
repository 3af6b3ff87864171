-- Who is logged in at a seat is there after a call, too.
use Rattle.std.proofs.Common.{◌≡◌, ℕ, ◌==◌, ◌||◌, ◌&&◌, ◌≤◌, Bool, true, false, cond, List, [], ◌∷◌, length}
use Rattle.std.proofs.Common.{refl, sym, ap, subst, ◌⊎◌, inl, inr, true≢false}
use Rattle.std.specs.Prelude.{map, is_some}
use Rattle.std.specs.List.{AllByRecursion, list_any, list_all}
use Rattle.std.proofs.lemmas.Bool.{cases_Bool, cond_both, and_parts, eqb-true}
use Rattle.kom_types.specs.declared.limits.TheConstants.{LONGEST_USER_NAME}
use Rattle.kom_types.specs.declared.decisions.Decision.{Decision}
use Rattle.kom_types.specs.declared.effects.Effect.{Effect}
use Rattle.kom_types.specs.declared.effects.Effect.TheVariants as effect
use Rattle.kom_types.specs.declared.persons.PersonRow.{PersonRow}
use Rattle.kom_types.specs.declared.seats.Seat.{Seat}
use Rattle.kom_types.specs.declared.session_changes.SessionChange.{SessionChange}
use Rattle.kom_types.specs.declared.session_changes.SessionChange.TheVariants as change
use Rattle.kom_types.specs.Sessions.{Session, is_session, changed_session, changed_seat, after_change, with_invisible}
use Rattle.kom_types.specs.tables.Persons as Persons
use Rattle.kom_types.specs.tables.Persons.{number_of_person, count_up, logged_in, with_hash, with_created_drawn}
use Rattle.kom_model.specs.Db.{Db, person_of}
use Rattle.kom_model.specs.Effects.{fits, after_effect, apply, apply_all, with_changed_person}
use Rattle.kom_model.specs.State.{State, IsSeated, AreSeated, seats_of}
use Rattle.kom_model.specs.After.{make_change, make_changes, carry_out}
use Rattle.kom_model.proofs.Changing.{make_changes-rows}
use Rattle.kom_model.proofs.Fields.{person_field-number, counted-number}
use Rattle.kom_model.proofs.whole.Counts.{all-along, all-mapped}
use Rattle.kom_model.proofs.whole.Found.{has-with_row, has-without, has-changed}

-- ---- persons
-- an effect takes no person away but this one
abbrev pub spares : ℕ → Effect → Bool
spares number (effect.PersonGone gone) = gone == number
spares number other = true

abbrev pub is_person : Db → ℕ → Bool
is_person db person = is_some (person_of db person)

module _ (db : Db) (person : ℕ) (there : is_person db person ≡ true) where
  changed-there : (at : ℕ) (make : PersonRow → PersonRow) → ((row : PersonRow) → (make row).number ≡ row.number) →
      is_person (with_changed_person at make db) person ≡ true
  unfolding person_of
  changed-there at make keeps =
      has-changed number_of_person (λ row. true) make keeps at db.persons (λ row found is. refl) person there

  made-there : (number : ℕ) → (person == number) ≡ false → (what : Effect) → fits what db ≡ true →
      spares number what ≡ true → is_person (after_effect what db) person ≡ true
  unfolding person_of fits after_effect
  made-there number other (effect.PersonAdded added privileges flags last_login) fit spared =
      has-with_row number_of_person (λ row. true) _ db.persons (and_parts _ _ fit).1 person there
  made-there number other (effect.PersonGone gone) fit spared =
      has-without number_of_person (λ row. true) gone db.persons person
      (rw (eqb-true gone number spared) other) there
  made-there number other (effect.PersonField at what) fit spared =
      changed-there at (Persons.with_field what) (person_field-number what)
  made-there number other (effect.Password at hash) fit spared = changed-there at (with_hash hash) (λ row. refl)
  made-there number other (effect.LoggedIn at moment user) fit spared =
      changed-there at (logged_in moment user) (λ row. refl)
  made-there number other (effect.Counted at counter by) fit spared =
      changed-there at (count_up counter by) (counted-number counter by)
  made-there number other (effect.AuxAdded true object item) fit spared = there
  made-there number other (effect.AuxAdded false object item) fit spared = there
  made-there number other (effect.Created at local text) fit spared =
      changed-there at (with_created_drawn local) (λ row. refl)
  made-there number other what fit spared = there

-- a person that no effect takes away stays
pub still-there : (effects : List Effect) (db : Db) (number person : ℕ) → (person == number) ≡ false →
    list_all (spares number) effects ≡ true → is_person db person ≡ true →
    is_person (apply_all effects db) person ≡ true
still-there [] db number person other spared there = there
still-there (what ∷ effects) db number person other spared there =
    let parts = and_parts (spares number what) (list_all (spares number) effects) spared in
    still-there effects (apply what db) number person other parts.1
    (cond_both (fits what db) (after_effect what db) db (λ (made : Db). is_person made person ≡ true)
    (λ fit. made-there db person there number other what fit parts.0) (λ fit. there))

-- ---- seats
-- a change seats nobody but a person that is there
abbrev pub seats_there : Db → SessionChange → Bool
seats_there db (change.Person session person invisible) = person == 0 || is_person db person
seats_there db other = true

-- a change empties the seat of this session
abbrev pub empties : ℕ → SessionChange → Bool
empties number (change.Person session person invisible) = number == session && person == 0
empties number other = false

-- whether a seat that this change makes is seated
module _ (db : Db) (moment : ℕ) where
  person-seated : (session person : ℕ) (invisible : Bool) (seat : Seat) →
      (person == 0 || is_person db person) ≡ true → length seat.user ≤ LONGEST_USER_NAME →
      IsSeated db (changed_seat (change.Person session person invisible) moment seat)
  person-seated session person invisible seat there user =
      let seated : Seat = record seat {
        person = person;
        level = 0;
        working = 0;
        flags = with_invisible invisible seat.flags;
      } in
      cond_both (person == 0) seated (record seated { login = moment; active = moment }) (IsSeated db)
      (λ _. record { person = there; user = user }) (λ _. record { person = there; user = user })

  seat-changed : (what : SessionChange) (seat : Seat) → seats_there db what ≡ true → IsSeated db seat →
      IsSeated db (changed_seat what moment seat)
  seat-changed (change.Person session person invisible) seat there is =
      person-seated session person invisible seat there is.user
  seat-changed (change.Level session level) seat there is = record { person = is.person; user = is.user }
  seat-changed (change.Working session conference) seat there is = record { person = is.person; user = is.user }
  seat-changed (change.Doing session doing) seat there is = record { person = is.person; user = is.user }
  seat-changed (change.Client session client version) seat there is = record { person = is.person; user = is.user }
  seat-changed (change.Accept session accepted) seat there is = record { person = is.person; user = is.user }
  seat-changed (change.Active session) seat there is = record { person = is.person; user = is.user }
  seat-changed (change.Ended session) seat there is = record { person = is.person; user = is.user }
  seat-changed change.Stop seat there is = is

  -- the number and the user stay
  number-kept : (what : SessionChange) (seat : Seat) → (changed_seat what moment seat).number ≡ seat.number
  number-kept (change.Person session person invisible) seat =
      cond_both (person == 0) _ _ (λ (one : Seat). one.number ≡ seat.number) (λ _. refl) (λ _. refl)
  number-kept (change.Level session level) seat = refl
  number-kept (change.Working session conference) seat = refl
  number-kept (change.Doing session doing) seat = refl
  number-kept (change.Client session client version) seat = refl
  number-kept (change.Accept session accepted) seat = refl
  number-kept (change.Active session) seat = refl
  number-kept (change.Ended session) seat = refl
  number-kept change.Stop seat = refl

  user-kept : (what : SessionChange) (seat : Seat) → (changed_seat what moment seat).user ≡ seat.user
  user-kept (change.Person session person invisible) seat =
      cond_both (person == 0) _ _ (λ (one : Seat). one.user ≡ seat.user) (λ _. refl) (λ _. refl)
  user-kept (change.Level session level) seat = refl
  user-kept (change.Working session conference) seat = refl
  user-kept (change.Doing session doing) seat = refl
  user-kept (change.Client session client version) seat = refl
  user-kept (change.Accept session accepted) seat = refl
  user-kept (change.Active session) seat = refl
  user-kept (change.Ended session) seat = refl
  user-kept change.Stop seat = refl

  -- what a change, and changes one after the other, make of one session
  abbrev stepped : SessionChange → Session → Session
  stepped what row = cond (is_session (changed_session what) row) (after_change what moment row) row

  abbrev walked : List SessionChange → Session → Session
  walked [] row = row
  walked (what ∷ changes) row = walked changes (stepped what row)

  -- who sits there is seated, or will be gone after the changes
  abbrev WillBe : List SessionChange → Session → Type 0
  WillBe changes row = IsSeated db row.seat
      ⊎ ((length row.seat.user ≤ LONGEST_USER_NAME) × (list_any (empties row.seat.number) changes ≡ true))

  -- a change that empties the seat does so
  emptied : (what : SessionChange) (row : Session) → empties row.seat.number what ≡ true →
      length row.seat.user ≤ LONGEST_USER_NAME → IsSeated db (stepped what row).seat
  emptied (change.Person session person invisible) row is user =
      let parts = and_parts (row.seat.number == session) (person == 0) is in
      rw parts.0 (person-seated session person invisible row.seat (rw parts.1 refl) user)
  emptied (change.Level session level) row is user = absurd (true≢false (sym is))
  emptied (change.Working session conference) row is user = absurd (true≢false (sym is))
  emptied (change.Doing session doing) row is user = absurd (true≢false (sym is))
  emptied (change.Client session client version) row is user = absurd (true≢false (sym is))
  emptied (change.Accept session accepted) row is user = absurd (true≢false (sym is))
  emptied (change.Active session) row is user = absurd (true≢false (sym is))
  emptied (change.Ended session) row is user = absurd (true≢false (sym is))
  emptied change.Stop row is user = absurd (true≢false (sym is))

  -- what else a change leaves of a session
  step-number : (what : SessionChange) (row : Session) → (stepped what row).seat.number ≡ row.seat.number
  step-number what row = cond_both (is_session (changed_session what) row) (after_change what moment row) row
      (λ (one : Session). one.seat.number ≡ row.seat.number) (λ _. number-kept what row.seat) (λ _. refl)

  step-user : (what : SessionChange) (row : Session) → (stepped what row).seat.user ≡ row.seat.user
  step-user what row = cond_both (is_session (changed_session what) row) (after_change what moment row) row
      (λ (one : Session). one.seat.user ≡ row.seat.user) (λ _. user-kept what row.seat) (λ _. refl)

  walk-seated : (changes : List SessionChange) (row : Session) → list_all (seats_there db) changes ≡ true →
      WillBe changes row → IsSeated db (walked changes row).seat
  walk-seated [] row there (inl seated) = seated
  walk-seated [] row there (inr late) = absurd (true≢false (sym late.1))
  walk-seated (what ∷ changes) row there (inl seated) =
      let parts = and_parts (seats_there db what) (list_all (seats_there db) changes) there in
      walk-seated changes (stepped what row) parts.1 (inl (cond_both (is_session (changed_session what) row)
      (after_change what moment row) row (λ (one : Session). IsSeated db one.seat)
      (λ _. seat-changed what row.seat parts.0 seated) (λ _. seated)))
  walk-seated (what ∷ changes) row there (inr late) =
      let parts = and_parts (seats_there db what) (list_all (seats_there db) changes) there in
      walk-seated changes (stepped what row) parts.1 (elim (cases_Bool (empties row.seat.number what)) [
        | inl now ↦ inl (emptied what row now late.0)
        | inr then ↦ inr (rw (step-user what row) late.0, rw (step-number what row) (rw then at late.1))
      ])

  -- so of all sessions
  changes-seated : (changes : List SessionChange) (state : State) →
      AllByRecursion (λ row. IsSeated db (walked changes row).seat) state.sessions →
      AllByRecursion (λ row. IsSeated db row.seat) (make_changes moment changes state).sessions
  changes-seated [] state all = all
  changes-seated (what ∷ changes) state all = changes-seated changes (make_change moment what state)
      (all-mapped (λ row. IsSeated db (walked (what ∷ changes) row).seat)
      (λ row. IsSeated db (walked changes row).seat) (stepped what) (λ row is. is) state.sessions all)

-- of each seat, and of each session
pub seats-of : (P : Seat → Type 0) (rows : List Session) → AllByRecursion (λ row. P row.seat) rows →
    AllByRecursion P (map (λ row. row.seat) rows)
seats-of P [] all = tt
seats-of P (row ∷ rows) all = (all.0, seats-of P rows all.1)

pub of-seats : (P : Seat → Type 0) (rows : List Session) → AllByRecursion P (map (λ row. row.seat) rows) →
    AllByRecursion (λ row. P row.seat) rows
of-seats P [] all = tt
of-seats P (row ∷ rows) all = (all.0, of-seats P rows all.1)

-- What a decision does to who is logged in: it takes no person away but one, whose sessions it logs out, and logs in
-- nobody but a person that is there.
pub record Carries (db : Db) (seats : List Seat) (decision : Decision) : Type 0 where
  pub number : ℕ
  pub spared : list_all (spares number) decision.effects ≡ true
  pub there : list_all (seats_there (apply_all decision.effects db)) decision.changes ≡ true
  pub emptied : AllByRecursion (λ seat. (seat.person == number) ≡ true → (seat.person == 0) ≡ false →
      list_any (empties seat.number) decision.changes ≡ true) seats

will-be : (db db' : Db) (moment number : ℕ) (changes : List SessionChange) →
    ((person : ℕ) → (person == number) ≡ false → is_person db person ≡ true → is_person db' person ≡ true) →
    (row : Session) → IsSeated db row.seat →
    ((row.seat.person == number) ≡ true → (row.seat.person == 0) ≡ false →
    list_any (empties row.seat.number) changes ≡ true) → WillBe db' moment changes row
will-be db db' moment number changes stays row seated leaves = elim (cases_Bool (row.seat.person == 0)) [
  | inl nobody ↦ inl (record { person = rw nobody refl; user = seated.user })
  | inr somebody ↦ elim (cases_Bool (row.seat.person == number)) [
    | inl gone ↦ inr (seated.user, leaves gone somebody)
    | inr other ↦
        let there : is_person db row.seat.person ≡ true = rw somebody at seated.person in
        inl (record { person = rw (somebody, stays row.seat.person other there) refl; user = seated.user })
  ]
]

pub carried-seated : (moment : ℕ) (decision : Decision) (state : State) →
    Carries state.db (seats_of state) decision → AreSeated state.db (seats_of state) →
    AreSeated (carry_out moment decision state).db (seats_of (carry_out moment decision state))
carried-seated moment decision state carries seated =
    let db : Db = apply_all decision.effects state.db in
    let start : State = record state { db = db } in
    let rows : (carry_out moment decision state).db ≡ db =
    ap (λ (s : State). s.db) (make_changes-rows moment decision.changes start) in
    subst (λ (after : Db). AreSeated after (seats_of (carry_out moment decision state))) (sym rows)
    (seats-of (IsSeated db) (carry_out moment decision state).sessions
    (changes-seated db moment decision.changes start
    (all-along (λ (row : Session). IsSeated state.db row.seat)
    (λ row. (row.seat.person == carries.number) ≡ true → (row.seat.person == 0) ≡ false →
    list_any (empties row.seat.number) decision.changes ≡ true)
    (λ row. IsSeated db (walked db moment decision.changes row).seat)
    (λ row is leaves. walk-seated db moment decision.changes row carries.there
    (will-be state.db db moment carries.number decision.changes
    (λ person other there. still-there decision.effects state.db carries.number person other carries.spared there)
    row is leaves)) state.sessions
    (of-seats (IsSeated state.db) state.sessions seated)
    (of-seats (λ seat. (seat.person == carries.number) ≡ true → (seat.person == 0) ≡ false →
    list_any (empties seat.number) decision.changes ≡ true) state.sessions carries.emptied))))
