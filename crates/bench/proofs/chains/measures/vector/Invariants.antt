use Rattle.std.proofs.Common.{◌≡◌, length}
use Rattle.bench.proofs.chains.measures.vector.Given as goal

abbrev pub invariant-loop-local : goal.invariant-loop-local
invariant-loop-local l = length l.vector.items ≡ l.local
