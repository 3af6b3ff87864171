use Rattle.std.proofs.Common.{refl}
use Rattle.kom_hub.proofs.Shown.{shown_open}
use Rattle.kom_hub.proofs.Seated.{called}
use Rattle.kom_hub.proofs.Hearing.{told_now}
use Rattle.kom_hub.proofs.Leaving.{leaves_called}
use Rattle.kom_hub.proofs.seat.SeatDesk.call.Goals as goal

pub call-answer-requires : goal.call-answer-requires
call-answer-requires g c =
    shown_open c.args.self.now.place.now.session c.args.session (g.K.Desk.view c.args.self.now.desk.now).mine c.requires

pub returns-clause-calls : goal.returns-clause-calls
returns-clause-calls g c = rw c.tell.ensures (called _ _ _ _ _ _ _ _ c.requires c.call-answer.ensures.calls)

pub returns-clause-on : goal.returns-clause-on
returns-clause-on g c = (
  refl,
  refl,
  c.call-answer.ensures.on,
  rw c.tell.ensures (leaves_called _ _ _ _ _ _ _ _ (told_now _ _) c.requires refl c.call-answer.ensures.calls),
)
