use Rattle.std.proofs.Common.{◌≡◌, ◌<◌, List, length, take, get_or, slice_get, Some, sym, subst, arith}
use Rattle.std.proofs.lemmas.List.{length-take-le}
use Rattle.map_chain.specs.Pairs.{Pair}
use Rattle.map_chain.proofs.Lists.{get_taken}
use Rattle.map_chain.proofs.block.Block.pair.Goals as goal

pub returns : goal.returns
returns c =
    let s = c.self.inside in let v = c.self.invariant in let full = v.full in let within = v.within in
    let long = length-take-le s.len s.pairs (omega arith) in
    let near : c.args.k < length (take s.len s.pairs) = subst (λ (ps : List Pair). c.args.k < length ps)
    (sym c.self.view_is) c.requires in
    subst (λ (ps : List Pair). slice_get ps c.args.k ≡ Some (get_or s.pairs c.args.k (0, 0))) c.self.view_is
    (get_taken s.pairs s.len c.args.k (0, 0) (omega arith) (omega arith))
