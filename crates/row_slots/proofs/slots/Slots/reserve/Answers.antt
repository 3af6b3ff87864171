use Rattle.std.proofs.Common.{arith}
use Rattle.std.proofs.Math.Nat.{le-min}
use Rattle.indexmap.proofs.MapLemmas.{OnOk-map}
use Rattle.row_slots.proofs.Laid.{length-laid}
use Rattle.row_slots.proofs.slots.Slots.reserve.Goals as goal

pub returns-clause-ok : goal.returns-clause-ok
returns-clause-ok g c =
    let counted = rw (← c.self.view_is) at c.count.ensures.count in
    OnOk-map c.reserve.result _ _
    (λ more. le-min (omega (arith, more))
    (omega (
      arith,
      counted,
      length-laid c.self.inside.settled.items c.self.inside.last.items c.self.invariant.0,
      c.if-additional-count.false,
      c.reserve.ensures.len,
      c.self.inside.settled.ok.0,
      c.self.inside.last.ok.0,
    )))
    c.reserve.ensures.ok
