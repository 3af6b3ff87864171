use Rattle.std.proofs.Common.{arith}
use Rattle.kom_state_lock.proofs.Turns.{may_log, logs_allowed}
use Rattle.kom_state_lock.proofs.steps.write_entry.Goals as goal

pub fetch_add-requires : goal.fetch_add-requires
fetch_add-requires g c =
    let key = c.args.words.now.key in
    let b = g.B.Booked in
    let me = c.args.seat.now.me in
    let m = may_log b.pass_of b.led key.value.value key.passes b.follows me.0.turn c.args.entry.now
    c.args.value.now c.requires.follows in (
      c.requires.table.1,
      omega (arith, c.requires.table.0.0),
      logs_allowed b.pass_of b.led key.value.value key.passes
          c.args.words.now.table_id.slots c.args.seat.now.id m.0 me m.1 m.2 c.args.entry.now c.args.value.now
          g.N.Told.entry g.N.Told.left
          m.3 c.requires.own (λ history leads.
          b.following_leads key.value.value history m.1 c.args.entry.now c.args.value.now leads m.4)
          c.requires.told.0 c.requires.told.1,
    )
