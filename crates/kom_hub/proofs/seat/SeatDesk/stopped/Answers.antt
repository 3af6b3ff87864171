use Rattle.std.proofs.Common.{refl}
use Rattle.kom_hub.proofs.Seated.{asked}
use Rattle.kom_hub.proofs.Hearing.{told_now}
use Rattle.kom_hub.proofs.Leaving.{leaves_asked}
use Rattle.kom_hub.proofs.seat.SeatDesk.stopped.Goals as goal

pub returns-clause-asks : goal.returns-clause-asks
returns-clause-asks g c = rw c.asked.ensures (asked _ _ _ _ _ c.stopped-answer.ensures.asks)

pub returns-clause-on : goal.returns-clause-on
returns-clause-on g c = (
  refl,
  refl,
  c.stopped-answer.ensures.on,
  rw c.asked.ensures (leaves_asked _ _ _ _ _ (told_now _ _) c.stopped-answer.ensures.asks),
)
