use Rattle.std.proofs.Common.{take}
use Rattle.kom_state.specs.Counts.{AreCounts}
use Rattle.kom_state.proofs.reserving.needs.counts_of.Given as goal

abbrev pub invariant-loop-need : goal.invariant-loop-need
invariant-loop-need l = AreCounts l.counts (take l.need-index l.needs)
