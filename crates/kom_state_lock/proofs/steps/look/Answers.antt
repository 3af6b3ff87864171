use Rattle.std.proofs.Common.{arith}
use Rattle.kom_state_lock.proofs.Turns.{looks_allowed}
use Rattle.kom_state_lock.proofs.steps.look.Goals as goal

pub load-requires : goal.load-requires
load-requires g c =
    let key = c.args.words.now.key in
    let b = g.B.Booked in
    let r = c.requires in (
      r.table.1,
      omega (arith, r.table.0.0),
      looks_allowed b.pass_of b.led key.value.value key.passes c.args.words.now.table_id.slots c.args.seat.now.id
          c.args.ticket c.args.seat.now.me g.N.Told.opening r.drawn.0 r.drawn.1 r.told,
    )
