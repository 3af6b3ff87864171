use Rattle.std.proofs.Common.{◌≡◌, ℕ, suc, ◌+◌, List, ◌∷◌, sym, ap, ◌∙◌, arith}
use denote.RawPtr.{Ptr}
use Rattle.map_chain.specs.Pairs.{Pair}
use Rattle.map_chain.proofs.Linking.{IsAt-node, get-within, node_at}
use Rattle.map_chain.proofs.Seeking.{filled_at}
use Rattle.map_chain.proofs.Walking.{onward-step, onward-over, onward-end}
use Rattle.map_chain.specs.Walks.{onward}
use Rattle.map_chain.proofs.walks.Upward.step.Goals as goal

pub returns-then-self-len : goal.returns-then-self-len
returns-then-self-len c =
    let s = c.self.inside in let n = c.len.ensures.len in let same = c.if-self-len.true in
    let none = sym c.self.view_is ∙ onward-end s.blocks.now s.i s.k (omega arith) in (none, none)

pub block-block-requires : goal.block-block-requires
block-block-requires c =
    let s = c.self.inside in let v = c.self.invariant in let within = v.within in let n = c.len.ensures.len in
    let ne = c.if-self-len.false in
    let h = v.here (omega arith) in IsAt-node s.blocks.now s.i s.at.ptr h.0 h.1

pub overflow_add-self-inside : goal.overflow_add-self-inside
overflow_add-self-inside c =
    let s = c.self.inside in let bs = s.blocks.now in let v = c.self.invariant in let ps = c.block-block.result.now in
    let inside = get-within ps s.k c.pair-pair.result c.pair-pair.ensures in
    let full = (filled_at bs s.i s.at.ptr ps v.filled c.block-block.ensures).1 in record { fits = omega arith }

pub returns-then-self-len-2 : goal.returns-then-self-len-2
returns-then-self-len-2 c =
    let s = c.self.inside in let bs = s.blocks.now in let q = c.pair-pair.result in
    let next : suc s.k ≡ s.k + 1 = omega arith in
    sym c.self.view_is ∙ onward-step bs s.i s.k s.at.ptr c.block-block.result.now q c.block-block.ensures
    c.pair-pair.ensures ∙ ap (λ (j : ℕ). q ∷ onward bs s.i j) next

pub step_up-self-inside-requires : goal.step_up-self-inside-requires
step_up-self-inside-requires c = IsAt-node c.self.inside.blocks.now c.self.inside.i c.self.inside.at.ptr
    c.block-block.result.now c.block-block.ensures

pub invariant_of-self-2 : goal.invariant_of-self-2
invariant_of-self-2 c =
    let s = c.self.inside in let bs = s.blocks.now in let v = c.self.invariant in
    let within = get-within bs s.i (s.at.ptr, c.block-block.result.now) c.block-block.ensures in
    record {
      filled = v.filled;
      within = omega arith;
      here = λ less.
          let p : Ptr = c.step_up-self-inside.result.ptr in
          let on = node_at bs (s.i + 1) p (c.step_up-self-inside.ensures less) in
          (on.0, on.1, (filled_at bs (s.i + 1) p on.0 v.filled on.1).0);
    }

pub returns : goal.returns
returns c =
    let s = c.self.inside in let bs = s.blocks.now in let q = c.pair-pair.result in let ps = c.block-block.result.now in
    let inside = get-within ps s.k q c.pair-pair.ensures in let test = c.if-self-len-2.false in
    let n = c.len-2.ensures.len in let next : suc s.i ≡ s.i + 1 = omega arith in
    sym c.self.view_is ∙ onward-step bs s.i s.k s.at.ptr ps q c.block-block.ensures c.pair-pair.ensures
    ∙ ap (λ (l : List Pair). q ∷ l) (onward-over bs s.i (suc s.k) s.at.ptr ps c.block-block.ensures (omega arith))
    ∙ ap (λ (j : ℕ). q ∷ onward bs j 0) next
