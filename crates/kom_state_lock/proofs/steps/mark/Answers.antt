use Rattle.std.proofs.Common.{arith}
use Rattle.kom_state_lock.proofs.Turns.{marks_allowed}
use Rattle.kom_state_lock.proofs.steps.mark.Goals as goal

pub swap-requires : goal.swap-requires
swap-requires g c =
    let key = c.args.words.now.key in
    let b = g.B.Booked in (
      c.requires.table.1,
      omega (arith, c.requires.table.0.0, c.bed.ensures.1),
      marks_allowed b.pass_of b.led key.value.value key.passes c.args.words.now.table_id.slots c.args.seat.now.id
          c.bed.result c.args.sleep c.args.seat.now.me c.bed.ensures.0,
    )
