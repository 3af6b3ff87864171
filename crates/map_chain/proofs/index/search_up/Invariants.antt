use Rattle.std.proofs.Common.{◌-◌, ◌<◌, ◌≤◌, length, get_or}
use Rattle.map_chain.proofs.index.search_up.Given as goal

-- the key at `low` is not above, unless it is the first of all
abbrev pub invariant-loop-step : goal.invariant-loop-step
invariant-loop-step l = record {
  some : 0 < l.step;
  within : l.low < length l.keys;
  reached : 0 < l.low → get_or l.keys l.low 0 ≤ l.local;
}

abbrev pub decreases-loop-step : goal.decreases-loop-step
decreases-loop-step l = length l.keys - l.low
