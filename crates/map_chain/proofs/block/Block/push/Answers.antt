use Rattle.std.proofs.Common.{◌<◌, List, length, take, sym, ap, subst, ◌∙◌, arith}
use Rattle.std.proofs.lemmas.List.{length-take-le, length-set, take_more_set}
use Rattle.map_chain.specs.Pairs.{Pair, highest}
use Rattle.map_chain.proofs.Lists.{highest-push}
use Rattle.map_chain.proofs.block.Block.push.Goals as goal

pub invariant_of-self : goal.invariant_of-self
invariant_of-self c =
    let s = c.self.inside in let v = c.self.invariant in let full = v.full in let within = v.within in
    let long = length-take-le s.len s.pairs (omega arith) in
    let short : length (take s.len s.pairs) < 64 = subst (λ (ps : List Pair). length ps < 64)
    (sym c.self.view_is) c.requires in
    let x : Pair = (c.args.local, c.args.text) in
    record {
      full = length-set s.pairs s.len x ∙ full;
      within = omega arith;
      top = sym (ap highest (take_more_set s.pairs s.len x (omega arith)) ∙ highest-push (take s.len s.pairs) x);
    }
