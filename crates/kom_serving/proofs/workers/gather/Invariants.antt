-- The first passes, gates and clocks are in the row, and the others where they were.
use Rattle.std.proofs.Common.{◌≡◌, ◌≤◌, ◌+◌, ◌++◌, map, Some, vec_len, vec_capacity}
use Rattle.kom_serving.specs.Workers.{gates_of, readings_of, passes_of}
use Rattle.kom_serving.proofs.workers.gather.Given as goal

abbrev pub invariant-loop-passes : goal.invariant-loop-passes
invariant-loop-passes g l = record {
  passes : passes_of l.row.items ++ map (λ pass. Some pass) l.passes.items
      ≡ map (λ pass. Some pass) l.fn.passes.items;
  gates : gates_of l.row.items ++ map (λ gate. g.G.Gate.view gate) l.gates.items
      ≡ map (λ gate. g.G.Gate.view gate) l.fn.gates.items;
  clocks : readings_of l.row.items ++ map (λ clock. g.C.Clock.gave clock) l.clocks.items
      ≡ map (λ clock. g.C.Clock.gave clock) l.fn.clocks.items;
  as_many : (vec_len l.gates ≡ vec_len l.passes) × (vec_len l.clocks ≡ vec_len l.passes);
  room : vec_len l.row + vec_len l.passes ≤ vec_capacity l.row;
  rooms : (vec_capacity l.passes ≡ vec_capacity l.fn.passes) × (vec_capacity l.gates ≡ vec_capacity l.fn.gates)
      × (vec_capacity l.clocks ≡ vec_capacity l.fn.clocks);
}

abbrev pub decreases-loop-passes : goal.decreases-loop-passes
decreases-loop-passes g l = vec_len l.passes
