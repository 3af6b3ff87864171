use Rattle.std.proofs.Common.{◌-◌, length, ap, arith}
use Rattle.std.proofs.lemmas.List.Edits.{length-remove}
use Rattle.map_chain.proofs.blocks.Blocks.free.Goals as goal

pub loop-node-smaller : goal.loop-node-smaller
loop-node-smaller c =
    let bs = c.loop-node.blocks in let w = c.in-Some.ensures in let some = w.0 in
    let less = length-remove bs (length bs - 1) (omega arith) in let same = ap (λ cs. length cs) w.1 in omega arith
