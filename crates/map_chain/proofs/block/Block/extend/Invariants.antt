use Rattle.std.proofs.Common.{◌≡◌, ◌++◌, take}
use Rattle.map_chain.proofs.block.Block.extend.Given as goal

-- the first k pairs have come
abbrev pub invariant-loop-k : goal.invariant-loop-k
invariant-loop-k l = l.self ≡ l.initial.self ++ take l.k l.more
