use Rattle.read_ranges.specs.ListFault.{IsFaultlessBelow, EndWithinBelow}
use Rattle.read_ranges.proofs.list.check.Given as goal

abbrev pub invariant-loop-at : goal.invariant-loop-at
invariant-loop-at l = record {
  faultless : IsFaultlessBelow l.list l.at;
  bounds : EndWithinBelow l.list l.at;
}
