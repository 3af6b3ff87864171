use Rattle.std.proofs.Common.{Some, rules, arith}
use Rattle.std.specs.Prelude.{IsSome}
use Rattle.kom_serving.proofs.Rows.{moved, all_rest}
use Rattle.kom_serving.proofs.workers.scatter.Goals as goal

pub loop-row-preserved : goal.loop-row-preserved
loop-row-preserved g c =
    let now = c.loop-row.invariant in record {
      some = (all_rest (λ worker. IsSome worker.pass) c.loop-row.row.items c.remove.new.self.items c.remove.result
          c.remove.ensures.by_index.2 c.remove.ensures.value (omega arith) now.some).1;
      passes = moved (λ pass. Some pass) (λ worker. worker.pass) c.loop-row.passes.items
          c.push_reserved.new.self.items _ c.loop-row.row.items c.remove.new.self.items c.remove.result _
          c.push_reserved.ensures.items
          c.remove.ensures.by_index.2 c.remove.ensures.value (omega arith) (search rules) now.passes;
      gates = moved g.G.Gate.view (λ worker. worker.gate) c.loop-row.gates.items
          c.push_reserved-in-loop-row.new.self.items _ c.loop-row.row.items c.remove.new.self.items c.remove.result _
          c.push_reserved-in-loop-row.ensures.items
          c.remove.ensures.by_index.2 c.remove.ensures.value (omega arith) (search rules) now.gates;
      clocks = moved g.C.Clock.gave (λ worker. worker.gave) c.loop-row.clocks.items
          c.push_reserved-in-loop-row-2.new.self.items _ c.loop-row.row.items c.remove.new.self.items c.remove.result _
          c.push_reserved-in-loop-row-2.ensures.items
          c.remove.ensures.by_index.2 c.remove.ensures.value (omega arith) (search rules) now.clocks;
      number = (omega arith, omega arith, omega arith);
      room = (omega arith, omega arith, omega arith);
      capacity = omega arith;
    }
