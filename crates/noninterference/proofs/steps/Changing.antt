-- The changes of a call are made of seats, which are never hidden.
use Rattle.std.proofs.Common.{◌≡◌, ℕ, Bool, true, false, cond, ◌==◌, ◌||◌, List, [], ◌∷◌, refl, sym, ap, ap₂, ◌∙◌}
use Rattle.std.specs.Prelude.{map}
use Rattle.kom_types.specs.declared.seats.Seat.{Seat}
use Rattle.kom_types.specs.declared.session_changes.SessionChange.{SessionChange}
use Rattle.kom_types.specs.declared.session_changes.SessionChange.TheVariants as change
use Rattle.kom_types.specs.Sessions.{Session, changed_session, changed_seat, after_change, is_session, is_stop}
use Rattle.kom_types.specs.Sessions.{with_invisible}
use Rattle.kom_model.specs.After.{make_change, make_changes}
use Rattle.kom_model.specs.Kinds.{is_among}
use Rattle.kom_model.specs.State.{State}
use Rattle.kom_laws.specs.Groups.{Group}
use Rattle.kom_laws.specs.Erasing.{erased_db, erased_session, erase}

number-changed : (what : SessionChange) (moment : ℕ) (seat : Seat) →
    (changed_seat what moment seat).number ≡ seat.number
number-changed (change.Person session person invisible) moment seat =
    let seated : Seat = record seat {
      person = person;
      level = 0;
      working = 0;
      flags = with_invisible invisible seat.flags;
    } in
    let logged_in : Seat = record seated { login = moment; active = moment } in
    elim (person == 0) as (λ b. (cond b seated logged_in).number ≡ seat.number) [ true ↦ refl | false ↦ refl ]
number-changed (change.Level session level) moment seat = refl
number-changed (change.Working session conference) moment seat = refl
number-changed (change.Doing session doing) moment seat = refl
number-changed (change.Client session client version) moment seat = refl
number-changed (change.Accept session accepted) moment seat = refl
number-changed (change.Active session) moment seat = refl
number-changed (change.Ended session) moment seat = refl
number-changed change.Stop moment seat = refl

-- two changes of rows, in either order
map-commuted : {X : Type 0} (f g : X → X) → ((row : X) → f (g row) ≡ g (f row)) → (rows : List X) →
    map f (map g rows) ≡ map g (map f rows)
map-commuted f g same [] = refl
map-commuted {X} f g same (row ∷ rows) =
    ap₂ (λ (first : X) (others : List X). first ∷ others) (same row) (map-commuted f g same rows)

module _ (group : Group) (moment : ℕ) where
  abbrev changes : SessionChange → Session → Session
  changes what row = cond (is_session (changed_session what) row) (after_change what moment row) row

  abbrev blank : Session → Session
  blank row = record row { waiting = []; overrun = false }

  -- what a change makes of a row without what waits
  changed-erased : (what : SessionChange) (row : Session) →
      erased_session group (after_change what moment row) ≡ after_change what moment (erased_session group row)
  changed-erased what row = ap (λ n. cond (is_among group.sessions n) (after_change what moment row)
      (blank (after_change what moment row))) (number-changed what moment row.seat)
      ∙ by (is_among group.sessions row.seat.number) where
        by : (own : Bool) → cond own (after_change what moment row) (blank (after_change what moment row))
            ≡ after_change what moment (cond own row (blank row))
        by true = refl
        by false = refl

  number-erased : (row : Session) → (erased_session group row).seat.number ≡ row.seat.number
  number-erased row = by (is_among group.sessions row.seat.number) where
    by : (own : Bool) → (cond own row (blank row)).seat.number ≡ row.seat.number
    by true = refl
    by false = refl

  row-erased : (what : SessionChange) (row : Session) →
      erased_session group (changes what row) ≡ changes what (erased_session group row)
  row-erased what row = by (row.seat.number == changed_session what)
      ∙ sym (ap (λ n. cond (n == changed_session what) (after_change what moment (erased_session group row))
      (erased_session group row)) (number-erased row)) where
        by : (here : Bool) → erased_session group (cond here (after_change what moment row) row)
            ≡ cond here (after_change what moment (erased_session group row)) (erased_session group row)
        by true = changed-erased what row
        by false = refl

  one-erased : (what : SessionChange) (state : State) →
      erase group (make_change moment what state) ≡ make_change moment what (erase group state)
  one-erased what state =
      let rows = map-commuted (erased_session group) (changes what) (row-erased what) state.sessions in
      λ i. record state {
        db = erased_db group state.db;
        sessions = rows i;
        stopped = state.stopped || is_stop what;
      }

  pub changes-erased : (whats : List SessionChange) (state : State) →
      erase group (make_changes moment whats state) ≡ make_changes moment whats (erase group state)
  changes-erased [] state = refl
  changes-erased (what ∷ whats) state = changes-erased whats (make_change moment what state)
      ∙ ap (make_changes moment whats) (one-erased what state)
