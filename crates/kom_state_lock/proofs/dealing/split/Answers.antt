use Rattle.std.proofs.Common.{ap, arith}
use Rattle.kom_state_lock.specs.Views.{is_over}
use Rattle.kom_state_lock.proofs.Seats.{splits_allowed}
use Rattle.kom_state_lock.proofs.dealing.split.Goals as goal

pub split_seat-requires : goal.split_seat-requires
split_seat-requires g c =
    let key = c.args.words.now.key in
    let b = g.B.Booked in
    let n = c.requires.splits in (
      c.requires.table.1,
      omega (arith, c.requires.table.0.0),
      splits_allowed b.pass_of b.led key.value.value key.passes c.args.seat.now.id c.args.seat.now.me.0
          (ap is_over c.requires.free) n.0 n.1,
    )
