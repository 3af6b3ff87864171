use Rattle.std.proofs.Common.{◌≡◌, ◌≤◌, vec_len, vec_capacity}
use Rattle.kom_links.specs.Doors.{KeepsTold}
use Rattle.kom_serving.specs.Runs.{with_clocks}
use Rattle.kom_serving.proofs.ports.open_clocks.Given as goal

-- so many clocks were asked for, and are there
abbrev pub invariant-loop : goal.invariant-loop
invariant-loop g l = record {
  len : vec_len l.clocks ≡ l.counter;
  within : l.counter ≤ l.number;
  room : l.number ≤ vec_capacity l.clocks;
  asked : (g.W.World.view l.world).counts ≡ with_clocks l.counter (g.W.World.view l.fn.world).counts;
  told : KeepsTold (g.W.World.view l.fn.world) (g.W.World.view l.world);
}
