use Rattle.std.proofs.Common.{List, length, sym, ap, ◌∙◌, arith}
use Rattle.std.proofs.lemmas.List.{length-take-le}
use Rattle.map_chain.specs.Pairs.{Pair}
use Rattle.map_chain.proofs.block.Block.len.Goals as goal

pub returns-clause-len : goal.returns-clause-len
returns-clause-len c =
    let s = c.self.inside in let v = c.self.invariant in let full = v.full in let within = v.within in
    sym (length-take-le s.len s.pairs (omega arith)) ∙ ap (λ (ps : List Pair). length ps) c.self.view_is
