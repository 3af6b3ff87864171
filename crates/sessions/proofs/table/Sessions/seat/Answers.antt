use Rattle.std.proofs.Common.{Some, refl}
use Rattle.sessions.proofs.Seats.{seat-there}
use Rattle.sessions.proofs.table.Sessions.seat.Goals as goal

pub returns-in_err-get : goal.returns-in_err-get
returns-in_err-get c =
    seat-there c.args.session _ c.get.result _ c.get.ensures (rw (c.from_residual.ensures, c.in_err-get.was) refl)

pub returns : goal.returns
returns c =
    seat-there c.args.session _ c.get.result (Some c.seat.result.now) c.get.ensures
    (rw (c.in_ok-get.was, c.seat.ensures) refl)
