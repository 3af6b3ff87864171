use Rattle.read_ranges.specs.ListFault.{IsFaultlessBelow}
use Rattle.read_ranges.proofs.list.first_fault.Given as goal

abbrev pub invariant-loop-at : goal.invariant-loop-at
invariant-loop-at l = IsFaultlessBelow l.list l.at
