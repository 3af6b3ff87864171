-- none of the gates so far failed
use Rattle.std.proofs.Common.{map, take}
use Rattle.kom_serving.specs.Runs.{HasFailed}
use Rattle.kom_serving.proofs.workers.have_failed.Given as goal

abbrev pub invariant-loop-gate : goal.invariant-loop-gate
invariant-loop-gate g l = HasFailed (map (λ gate. g.G.Gate.view gate) (take l.gate-index l.gates)) → ⊥
