-- The changes of a call keep the numbers of sessions and what waits for them.
use Rattle.std.proofs.Common.{◌≡◌, ℕ, ◌==◌, true, false, cond, List, [], ◌∷◌, refl, ◌∙◌}
use Rattle.kom_types.specs.declared.seats.Seat.{Seat}
use Rattle.kom_types.specs.declared.session_changes.SessionChange.{SessionChange}
use Rattle.kom_types.specs.declared.session_changes.SessionChange.TheVariants as change
use Rattle.kom_types.specs.Sessions.{Waiting, changed_session, changed_seat, after_change}
use Rattle.kom_types.specs.Sessions.{with_invisible}
use Rattle.kom_model.specs.State.{State}
use Rattle.kom_model.specs.After.{make_change, make_changes}
use Rattle.kom_model.proofs.Keeping.{KeepsRows, KeepsRows-same, KeepsRows-changed, KeepsRows-then}

-- what waits stays
abbrev pub Stays : List Waiting → List Waiting → Type 0
Stays waiting waiting' = waiting' ≡ waiting

number-changed_seat : (what : SessionChange) (moment : ℕ) (seat : Seat) →
    (changed_seat what moment seat).number ≡ seat.number
number-changed_seat (change.Person session person invisible) moment seat =
    let seated : Seat = record seat {
      person = person;
      level = 0;
      working = 0;
      flags = with_invisible invisible seat.flags;
    } in
    let logged_in : Seat = record seated { login = moment; active = moment } in
    elim (person == 0) as (λ b. (cond b seated logged_in).number ≡ seat.number) [
      | true ↦ refl
      | false ↦ refl
    ]
number-changed_seat (change.Level session level) moment seat = refl
number-changed_seat (change.Working session conference) moment seat = refl
number-changed_seat (change.Doing session doing) moment seat = refl
number-changed_seat (change.Client session client version) moment seat = refl
number-changed_seat (change.Accept session accepted) moment seat = refl
number-changed_seat (change.Active session) moment seat = refl
number-changed_seat (change.Ended session) moment seat = refl
number-changed_seat change.Stop moment seat = refl

pub make_changes-stay : (moment : ℕ) (changes : List SessionChange) (state : State) →
    KeepsRows Stays state.sessions (make_changes moment changes state).sessions
make_changes-stay moment [] state = KeepsRows-same Stays (λ w. refl) state.sessions
make_changes-stay moment (what ∷ changes) state =
    let next : State = make_change moment what state in
    KeepsRows-then Stays Stays Stays (λ a b c first second. second ∙ first) state.sessions next.sessions
    (make_changes moment changes next).sessions
    (KeepsRows-changed Stays (λ w. refl) (changed_session what) (after_change what moment)
    (λ row. (number-changed_seat what moment row.seat, refl)) state.sessions)
    (make_changes-stay moment changes next)

-- the changes are of sessions, and of whether the server was shut down, alone
pub make_changes-rows : (moment : ℕ) (changes : List SessionChange) (state : State) →
    make_changes moment changes state ≡ record state {
      sessions = (make_changes moment changes state).sessions;
      stopped = (make_changes moment changes state).stopped;
    }
make_changes-rows moment [] state = refl
make_changes-rows moment (what ∷ changes) state = make_changes-rows moment changes (make_change moment what state)
