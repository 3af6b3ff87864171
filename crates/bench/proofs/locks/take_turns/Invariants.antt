use Rattle.std.proofs.Common.{◌≡◌}
use Rattle.kom_state_lock.specs.Passes.{HoldsNoTurn}
use Rattle.bench.proofs.locks.take_turns.Given as goal

abbrev pub invariant-loop : goal.invariant-loop
invariant-loop g l = (l.pass.table ≡ l.hall.table) × HoldsNoTurn l.pass.turn × (l.pass.number ≡ l.initial.pass.number)
