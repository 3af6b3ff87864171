use Rattle.map_chain.specs.Keys.{IsAmong}
use Rattle.map_chain.proofs.index.halve.Given as goal

abbrev pub invariant-loop-span : goal.invariant-loop-span
invariant-loop-span l = IsAmong l.local l.keys l.at l.span

abbrev pub decreases-loop-span : goal.decreases-loop-span
decreases-loop-span l = l.span
