use Rattle.std.proofs.Common.{◌≡◌, length}
use Rattle.map_chain.specs.Pairs.{AllBelow}
use Rattle.bench.proofs.chains.measures.filled.Given as goal

abbrev pub invariant-loop-local : goal.invariant-loop-local
invariant-loop-local l = AllBelow l.local l.chain.pairs × (length l.chain.pairs ≡ l.local)
