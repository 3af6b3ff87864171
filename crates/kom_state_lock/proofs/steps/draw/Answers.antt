use Rattle.std.proofs.Common.{arith}
use Rattle.kom_state_lock.proofs.Turns.{draws_allowed}
use Rattle.kom_state_lock.proofs.steps.draw.Goals as goal

pub fetch_add-requires : goal.fetch_add-requires
fetch_add-requires g c =
    let key = c.args.words.now.key in (
      c.requires.table.1,
      omega (arith, c.requires.table.0.0),
      draws_allowed g.B.Booked.pass_of g.B.Booked.led key.value.value key.passes
          c.args.words.now.table_id.slots c.args.seat.now.id c.args.seat.now.me c.requires.free,
    )
