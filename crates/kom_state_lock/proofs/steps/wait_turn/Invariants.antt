use Rattle.std.proofs.Common.{◌≡◌}
use Rattle.kom_state_lock.specs.Steps.{IsSameSeat}
use Rattle.kom_state_lock.proofs.steps.wait_turn.Given as goal

-- until its turn comes the seat stays as it is
abbrev pub invariant-loop : goal.invariant-loop
invariant-loop g l =
    (goal.iterator-loop g).can_next l.iterator' × (goal.iterator-loop g).is_finite l.iterator'
    × IsSameSeat l.initial.seat l.seat × (l.seat.me ≡ l.initial.seat.me)
