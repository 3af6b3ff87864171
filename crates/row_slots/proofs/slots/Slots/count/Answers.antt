use Rattle.std.proofs.Common.{arith}
use Rattle.row_slots.proofs.Laid.{length-laid}
use Rattle.row_slots.proofs.slots.Slots.count.Goals as goal

pub returns-clause-count : goal.returns-clause-count
returns-clause-count g c =
    rw (← c.self.view_is)
    (omega (
      arith,
      length-laid c.self.inside.settled.items c.self.inside.last.items c.self.invariant.0,
      c.len.ensures,
      c.len-2.ensures,
      c.self.inside.settled.ok.0,
      c.self.inside.last.ok.0,
    ))
