use Rattle.std.proofs.Common.{arith}
use Rattle.kom_state_lock.proofs.PassFacts.{free_goes, free_idle}
use Rattle.kom_state_lock.proofs.Seats.{joins_allowed}
use Rattle.kom_state_lock.proofs.closing.join.Goals as goal

pub join_seat-requires : goal.join_seat-requires
join_seat-requires g c =
    let key = c.args.words.now.key in
    let b = g.B.Booked in
    let v = c.args.seat.now.me.0 in
    let w = c.args.other.me.0 in
    let f = c.requires.free in (
      c.requires.table.0.1,
      c.requires.table.1.1,
      f.2,
      omega (arith, c.requires.table.0.0.0),
      joins_allowed b.pass_of b.led key.value.value key.passes c.args.seat.now.id c.args.other.id v w
          (free_goes v.turn f.0) (free_idle v.turn f.0) (free_goes w.turn f.1) (free_idle w.turn f.1),
    )
