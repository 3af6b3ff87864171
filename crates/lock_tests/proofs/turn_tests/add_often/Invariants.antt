use Rattle.std.proofs.Common.{◌≡◌}
use Rattle.kom_state_lock.specs.Passes.{HoldsNoTurn}
use Rattle.lock_tests.proofs.turn_tests.add_often.Given as goal

abbrev pub invariant-loop-by : goal.invariant-loop-by
invariant-loop-by g l = (l.pass.table ≡ l.hall.table) × HoldsNoTurn l.pass.turn
    × (l.pass.number ≡ l.initial.pass.number)
