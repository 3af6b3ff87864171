use Rattle.std.proofs.Common.{refl}
use Rattle.kom_hub.proofs.Shown.{shown_open}
use Rattle.kom_hub.proofs.Seated.{drained_by, drained_told}
use Rattle.kom_hub.proofs.Leaving.{leaves_drained}
use Rattle.kom_hub.proofs.seat.SeatDesk.drain_into.Goals as goal

pub drain_into-answer-requires : goal.drain_into-answer-requires
drain_into-answer-requires g c =
    shown_open c.args.self.now.place.now.session c.args.session (g.K.Desk.view c.args.self.now.desk.now).mine c.requires

pub returns-clause-drains : goal.returns-clause-drains
returns-clause-drains g c = rw c.tell.ensures
    (drained_by _ _ _ _ _ _ _ _ _ c.is_empty.ensures c.requires c.drain_into-answer.ensures.drains)

pub returns-clause-on : goal.returns-clause-on
returns-clause-on g c = (
  refl,
  refl,
  c.drain_into-answer.ensures.on,
  rw c.tell.ensures (leaves_drained _ _ _ _ _ _ _ _
      (record { session = refl; spent = refl; items = drained_told _ _ _ _ _ c.is_empty.ensures }) c.requires
      c.drain_into-answer.ensures.drains),
)
