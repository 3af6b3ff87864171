use Rattle.std.proofs.Common.{length}
use Rattle.map_chain.proofs.blocks.Blocks.free.Given as goal

abbrev pub decreases-loop-node : goal.decreases-loop-node
decreases-loop-node l = length l.blocks
