use Rattle.std.proofs.Common.{◌≡◌, ◌-◌, List, ◌∷◌, reverse, sym, ap, ◌∙◌, arith}
use Rattle.map_chain.specs.Pairs.{Pair}
use Rattle.map_chain.proofs.Linking.{IsAt-node}
use Rattle.map_chain.proofs.Seeking.{filled_at}
use Rattle.map_chain.proofs.Walking.{down-step, down-over}
use Rattle.map_chain.proofs.walks.Downward.step.Goals as goal

pub returns-then-self-gt1 : goal.returns-then-self-gt1
returns-then-self-gt1 c =
    let s = c.self.inside in let bs = s.blocks.now in let some = c.if-self-eq0.false in let test = c.if-self-gt1.true in
    sym c.self.view_is ∙ down-step bs s.i s.k s.at.ptr c.block.result.now c.pair-pair.result (omega arith)
    (omega arith) c.block.ensures c.pair-pair.ensures

pub step_down-k-requires : goal.step_down-k-requires
step_down-k-requires c =
    let s = c.self.inside in IsAt-node s.blocks.now (s.i - 1) s.at.ptr c.block.result.now c.block.ensures

pub invariant_of-self-2 : goal.invariant_of-self-2
invariant_of-self-2 c =
    let s = c.self.inside in let bs = s.blocks.now in let v = c.self.invariant in let within = v.within in
    record {
      filled = v.filled;
      within = omega arith;
      here = λ some.
          let w = c.step_down-k.ensures some in let m = w.count in
          let least = (filled_at bs (s.i - 1 - 1) c.step_down-k.result.0.ptr w.pairs v.filled w.is).0 in
          (w.pairs, w.is, omega arith, omega arith);
    }

pub returns : goal.returns
returns c =
    let s = c.self.inside in let bs = s.blocks.now in let v = c.self.invariant in let some = c.if-self-eq0.false in
    let test = c.if-self-gt1.false in let q = c.pair-pair.result in
    let h = v.here (omega arith) in let least = h.2 in let none : s.k - 1 ≡ 0 = omega arith in
    sym c.self.view_is ∙ down-step bs s.i s.k s.at.ptr c.block.result.now q
    (omega arith) least c.block.ensures c.pair-pair.ensures
    ∙ ap (λ (l : List Pair). q ∷ reverse l)
    (down-over bs s.i (s.k - 1) c.step_down-k.result.1 s.at.ptr c.step_down-k.result.0.ptr c.block.result.now
    (omega arith) none c.block.ensures c.step_down-k.ensures)
