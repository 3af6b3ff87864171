use Rattle.std.proofs.Common.{◌-◌, ◌≤◌, take, drop}
use Rattle.map_chain.specs.Pairs.{AllBelow, AllFrom}
use Rattle.map_chain.proofs.block.Block.find.Given as goal

abbrev pub invariant-loop-low : goal.invariant-loop-low
invariant-loop-low l = record {
  ordered : l.low ≤ l.high;
  within : l.high ≤ 64;
  few : l.low ≤ l.self-inside.len;
  before : AllBelow l.local (take l.low l.self);
  after : AllFrom l.local (drop l.high l.self);
}

abbrev pub decreases-loop-low : goal.decreases-loop-low
decreases-loop-low l = l.high - l.low
