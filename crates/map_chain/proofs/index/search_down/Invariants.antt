use Rattle.std.proofs.Common.{◌<◌, length, get_or}
use Rattle.map_chain.proofs.index.search_down.Given as goal

-- the key at `high` is above
abbrev pub invariant-loop-step : goal.invariant-loop-step
invariant-loop-step l = record {
  some : 0 < l.step;
  later : 0 < l.high;
  within : l.high < length l.keys;
  passed : l.local < get_or l.keys l.high 0;
}

abbrev pub decreases-loop-step : goal.decreases-loop-step
decreases-loop-step l = l.high
