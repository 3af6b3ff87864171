use Rattle.std.proofs.Common.{◌≡◌}
use Rattle.kom_state_lock.specs.Steps.{IsSameSeat}
use Rattle.kom_state_lock.proofs.steps.watch.Given as goal

-- until its turn comes the seat stays as it is
abbrev pub invariant-loop : goal.invariant-loop
invariant-loop g l = IsSameSeat l.initial.seat l.seat × (l.seat.me ≡ l.initial.seat.me)
