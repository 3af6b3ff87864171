use Rattle.std.proofs.Common.{◌-◌, length}
use Rattle.map_chain.proofs.Growing.{HasStocked}
use Rattle.map_chain.proofs.chain.stock.Given as goal

abbrev pub invariant-loop-alloc : goal.invariant-loop-alloc
invariant-loop-alloc l = HasStocked l.initial.spare l.spare l.blocks

abbrev pub decreases-loop-alloc : goal.decreases-loop-alloc
decreases-loop-alloc l = l.blocks - length l.spare
