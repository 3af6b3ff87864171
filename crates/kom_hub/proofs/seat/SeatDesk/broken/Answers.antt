use Rattle.std.proofs.Common.{refl}
use Rattle.kom_hub.proofs.Shown.{shown_open}
use Rattle.kom_hub.proofs.Seated.{acted}
use Rattle.kom_hub.proofs.Hearing.{told_now}
use Rattle.kom_hub.proofs.Leaving.{leaves_act}
use Rattle.kom_hub.proofs.seat.SeatDesk.broken.Goals as goal

pub broken-answer-requires : goal.broken-answer-requires
broken-answer-requires g c =
    shown_open c.args.self.now.place.now.session c.args.session (g.K.Desk.view c.args.self.now.desk.now).mine c.requires

pub returns-clause-acts : goal.returns-clause-acts
returns-clause-acts g c = rw c.tell.ensures (acted _ _ _ _ _ _ _ _ c.requires c.broken-answer.ensures.acts)

pub returns-clause-on : goal.returns-clause-on
returns-clause-on g c = (
  refl,
  refl,
  c.broken-answer.ensures.on,
  rw c.tell.ensures (leaves_act _ _ _ _ _ _ _ _ (told_now _ _) c.requires refl c.broken-answer.ensures.acts),
)
