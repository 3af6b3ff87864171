use Rattle.std.proofs.Common.{refl}
use Rattle.kom_hub.proofs.Shown.{shown_open}
use Rattle.kom_hub.proofs.Seated.{closed}
use Rattle.kom_hub.proofs.Hearing.{told_now}
use Rattle.kom_hub.proofs.Leaving.{leaves_closed}
use Rattle.kom_hub.proofs.seat.SeatDesk.close.Goals as goal

pub close-answer-requires : goal.close-answer-requires
close-answer-requires g c =
    shown_open c.args.self.now.place.now.session c.args.session (g.K.Desk.view c.args.self.now.desk.now).mine c.requires

pub returns-clause-closes : goal.returns-clause-closes
returns-clause-closes g c = rw c.tell.ensures (closed _ _ _ _ _ _ _ c.requires c.close-answer.ensures.closes)

pub returns-clause-on : goal.returns-clause-on
returns-clause-on g c = (
  refl,
  refl,
  c.close-answer.ensures.on,
  rw c.tell.ensures (leaves_closed _ _ _ _ _ _ _ (told_now _ _) c.requires c.close-answer.ensures.closes),
)
