use Rattle.std.proofs.Common.{Some, refl, arith}
use Rattle.kom_serving.proofs.Rows.{moved}
use Rattle.kom_serving.proofs.workers.gather.Goals as goal

pub loop-passes-preserved : goal.loop-passes-preserved
loop-passes-preserved g c =
    let now = c.loop-passes.invariant in record {
      passes = moved (λ worker. worker.pass) (λ pass. Some pass) c.loop-passes.row.items
          c.push_reserved.new.self.items _ c.loop-passes.passes.items c.remove-pass.new.self.items c.remove-pass.result
          _ c.push_reserved.ensures.items
          c.remove-pass.ensures.by_index.2 c.remove-pass.ensures.value (omega arith) refl now.passes;
      gates = moved (λ worker. worker.gate) g.G.Gate.view c.loop-passes.row.items c.push_reserved.new.self.items _
          c.loop-passes.gates.items c.remove-gate.new.self.items c.remove-gate.result _ c.push_reserved.ensures.items
          c.remove-gate.ensures.by_index.2 c.remove-gate.ensures.value (omega arith) refl now.gates;
      clocks = moved (λ worker. worker.gave) g.C.Clock.gave c.loop-passes.row.items c.push_reserved.new.self.items _
          c.loop-passes.clocks.items c.remove-clock.new.self.items c.remove-clock.result _ c.push_reserved.ensures.items
          c.remove-clock.ensures.by_index.2 c.remove-clock.ensures.value (omega arith) refl now.clocks;
      as_many = (omega arith, omega arith);
      room = omega arith;
      rooms = (omega arith, omega arith, omega arith);
    }
