use Rattle.std.proofs.Common.{◌≢◌, ◌≤◌, length, drop, All}
use Rattle.kom_disk.specs.declared.step.Step.TheVariants.{Sync}
use Rattle.kom_disk.proofs.image.synced.Given as goal

abbrev pub invariant-loop-end : goal.invariant-loop-end
invariant-loop-end l = (l.end ≤ length l.steps) × All (λ step. step ≢ Sync) (drop l.end l.steps)

abbrev pub decreases-loop-end : goal.decreases-loop-end
decreases-loop-end l = l.end
