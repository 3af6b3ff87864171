use Rattle.std.proofs.Common.{◌≡◌, take}
use Rattle.kom_disk.specs.Steps.{bytes_after}
use Rattle.kom_disk.proofs.image.replayed.Given as goal

abbrev pub invariant-loop-step : goal.invariant-loop-step
invariant-loop-step l = l.bytes.items ≡ bytes_after l.start (take l.step-index l.steps)
