use Rattle.std.proofs.Common.{◌-◌}
use Rattle.kom_load.proofs.Going.{IsAt}
use Rattle.kom_load.proofs.loading.make_calls.Given as goal

abbrev pub invariant-loop-run : goal.invariant-loop-run
invariant-loop-run l = IsAt l.count l.run l.core.state

abbrev pub decreases-loop-run : goal.decreases-loop-run
decreases-loop-run l = l.count - l.run.calls
