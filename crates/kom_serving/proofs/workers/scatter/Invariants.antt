-- What the first workers had is back in its rows, and each of the others has its pass.
use Rattle.std.proofs.Common.{◌≡◌, ◌≤◌, ◌+◌, ◌++◌, map, Some, vec_len, vec_capacity}
use Rattle.std.specs.Prelude.{IsSome}
use Rattle.std.specs.List.{AllByRecursion}
use Rattle.kom_serving.specs.Workers.{gates_of, readings_of, passes_of}
use Rattle.kom_serving.proofs.workers.scatter.Given as goal

abbrev pub invariant-loop-row : goal.invariant-loop-row
invariant-loop-row g l = record {
  some : AllByRecursion (λ worker. IsSome worker.pass) l.row.items;
  passes : map (λ pass. Some pass) l.passes.items ++ passes_of l.row.items ≡ passes_of l.fn.row.items;
  gates : map (λ gate. g.G.Gate.view gate) l.gates.items ++ gates_of l.row.items ≡ gates_of l.fn.row.items;
  clocks : map (λ clock. g.C.Clock.gave clock) l.clocks.items ++ readings_of l.row.items
      ≡ readings_of l.fn.row.items;
  number : (vec_len l.passes + vec_len l.row ≡ vec_len l.fn.row) × (vec_len l.gates + vec_len l.row ≡ vec_len l.fn.row)
      × (vec_len l.clocks + vec_len l.row ≡ vec_len l.fn.row);
  room : (vec_len l.fn.row ≤ vec_capacity l.passes) × (vec_len l.fn.row ≤ vec_capacity l.gates)
      × (vec_len l.fn.row ≤ vec_capacity l.clocks);
  capacity : vec_capacity l.passes ≡ vec_capacity l.fn.passes;
}

abbrev pub decreases-loop-row : goal.decreases-loop-row
decreases-loop-row g l = vec_len l.row
