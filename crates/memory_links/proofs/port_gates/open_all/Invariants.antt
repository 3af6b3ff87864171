-- The gates of the last plans are there in order, and there is room for the others.
use Rattle.std.proofs.Common.{◌≡◌, ◌+◌, ◌++◌, map, length, vec_len, vec_capacity}
use Rattle.std.specs.List.{AllByRecursion}
use Rattle.kom_links.specs.Doors.{IsNewGate}
use Rattle.memory_links.specs.Memories.{gate_view, clients_of, script_of, calls_of}
use Rattle.memory_links.proofs.port_gates.open_all.Given as goal

abbrev pub invariant-loop-plan : goal.invariant-loop-plan
invariant-loop-plan l = record {
  fresh : AllByRecursion (λ gate. IsNewGate (gate_view gate)) l.gates.items;
  no_call : AllByRecursion (λ gate. calls_of gate ≡ 0) l.gates.items;
  clients : map (λ plan. plan.clients.items) l.plans.items ++ map (λ gate. clients_of gate) l.gates.items
      ≡ map (λ plan. plan.clients.items) l.fn.plans.items;
  scripts : map (λ plan. plan.script) l.plans.items ++ map (λ gate. script_of gate) l.gates.items
      ≡ map (λ plan. plan.script) l.fn.plans.items;
  room : vec_len l.plans + vec_len l.gates ≡ vec_capacity l.gates;
  number : vec_len l.plans + vec_len l.gates ≡ length l.fn.plans.items;
}

abbrev pub decreases-loop-plan : goal.decreases-loop-plan
decreases-loop-plan l = vec_len l.plans
