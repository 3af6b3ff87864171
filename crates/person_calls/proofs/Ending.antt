-- Who may end a session.
use Rattle.std.proofs.Common.{◌≡◌, ℕ, Bool, false, not, ◌||◌, ◌&&◌, eqb, Option, Some, None, refl, ap, ◌∙◌}
use Rattle.kom_types.specs.declared.seats.Seat.{Seat}
use Rattle.kom_model.specs.Rights.{supervises}
use Rattle.kom_model.specs.calls.Call.{Asked}
use Rattle.kom_model.specs.calls.Guards.{caller, seat_at}
use Rattle.kom_model.specs.calls.Sessions.{may_disconnect}

only_last : (own strong last : Bool) → own ≡ false → strong ≡ false → last ≡ (own || strong || last)
only_last own strong last other weak = rw (other, weak) refl

-- who calls supervises the person of a seat
abbrev pub is_supervised : Asked → Option Seat → Bool
is_supervised asked found = elim found [
  | None ↦ false
  | Some seat ↦ not (eqb seat.person 0) && supervises asked.db (caller asked).person seat.person
]

-- in a session that is not strong, who calls ends another one as a supervisor alone
pub ended-supervised : (asked : Asked) (session : ℕ) (found : Option Seat) → eqb session asked.session ≡ false →
    (caller asked).strong ≡ false → found ≡ seat_at asked.seats session →
    is_supervised asked found ≡ may_disconnect asked session
ended-supervised asked session found other weak is =
    ap (is_supervised asked) is
    ∙ only_last (eqb session asked.session) (caller asked).strong (is_supervised asked (seat_at asked.seats session))
    other weak
