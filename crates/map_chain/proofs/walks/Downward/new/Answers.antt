use Rattle.std.proofs.Common.{◌≡◌, ℕ, suc, ◌+◌, ◌-◌, [], ◌++◌, take, drop, reverse, slice_get, Some, sym, ap, subst}
use Rattle.std.proofs.Common.{◌∙◌, arith}
use denote.RawPtr.{Ptr}
use Rattle.map_chain.specs.Blocks.{pairs_of}
use Rattle.std.proofs.Common.{append-nil}
use Rattle.map_chain.specs.Walks.{up_to}
use Rattle.map_chain.proofs.Linking.{get-within, IsAt-node}
use Rattle.map_chain.proofs.Seeking.{block_rising, filled_at}
use Rattle.map_chain.proofs.Filters.{place_cut, below-cut, all-low}
use Rattle.map_chain.proofs.Walking.{up_to-cut, up_to-all}
use Rattle.map_chain.proofs.walks.Downward.new.Goals as goal

pub find_near-k-requires : goal.find_near-k-requires
find_near-k-requires c = block_rising c.args.ceiling c.args.blocks.now c.in-Some.i c.in-Some.at.ptr c.block.result.now
    c.block.ensures c.requires.order.0

pub overflow_add-result : goal.overflow_add-result
overflow_add-result c =
    let n = c.len-count.ensures.len in let b = c.len-count.ensures.bound in
    let within = get-within c.args.blocks.now c.in-Some.i (c.in-Some.at.ptr, c.block.result.now) c.block.ensures in
    record { fits = omega arith }

pub invariant_of-result : goal.invariant_of-result
invariant_of-result c =
    let bs = c.args.blocks.now in let ps = c.block.result.now in let p : Ptr = c.in-Some.at.ptr in
    let within = get-within bs c.in-Some.i (p, ps) c.block.ensures in
    let same : c.in-Some.i ≡ c.in-Some.i + 1 - 1 = omega arith in
    record {
      filled = c.requires.order.1;
      within = omega arith;
      here = λ some. (
        ps,
        subst (λ (j : ℕ). slice_get bs j ≡ Some (p, ps)) same c.block.ensures,
        c.if-k-gt0.true,
        c.find_near-k.ensures.0,
      );
    }

pub returns-then-k-gt0 : goal.returns-then-k-gt0
returns-then-k-gt0 c =
    let bs = c.args.blocks.now in let ps = c.block.result.now in let p : Ptr = c.in-Some.at.ptr in
    let i : ℕ = c.in-Some.i in let k : ℕ = c.find_near-k.result in let next : i + 1 ≡ suc i = omega arith in
    ap reverse (ap (λ (j : ℕ). up_to bs j k) next ∙ up_to-cut bs i k p ps c.block.ensures
    ∙ sym (below-cut c.args.ceiling (pairs_of bs) (pairs_of (take i bs) ++ take k ps)
    (drop k ps ++ pairs_of (drop (suc i) bs))
    (place_cut c.args.ceiling bs i p ps k c.in-Some.ensures c.block.ensures c.find_near-k.ensures c.requires.order.0
    c.requires.order.1)))

pub step_down-k-requires : goal.step_down-k-requires
step_down-k-requires c = IsAt-node c.args.blocks.now c.in-Some.i c.in-Some.at.ptr c.block.result.now c.block.ensures

pub invariant_of-result-in-Some : goal.invariant_of-result-in-Some
invariant_of-result-in-Some c =
    let bs = c.args.blocks.now in
    let within = get-within bs c.in-Some.i (c.in-Some.at.ptr, c.block.result.now) c.block.ensures in
    record {
      filled = c.requires.order.1;
      within = omega arith;
      here = λ some.
          let w = c.step_down-k.ensures some in let m = w.count in
          let least = (filled_at bs (c.in-Some.i - 1) c.step_down-k.result.0.ptr w.pairs c.requires.order.1 w.is).0 in
          (w.pairs, w.is, omega arith, omega arith);
    }

pub returns-else-k-gt0 : goal.returns-else-k-gt0
returns-else-k-gt0 c =
    let bs = c.args.blocks.now in let ps = c.block.result.now in let p : Ptr = c.in-Some.at.ptr in
    let i : ℕ = c.in-Some.i in let k : ℕ = c.find_near-k.result in let test = c.if-k-gt0.false in
    let none : k ≡ 0 = omega arith in
    ap reverse (up_to-all bs i c.step_down-k.result.0.ptr c.step_down-k.result.1 c.step_down-k.ensures
    ∙ sym (below-cut c.args.ceiling (pairs_of bs) (pairs_of (take i bs) ++ take k ps)
    (drop k ps ++ pairs_of (drop (suc i) bs))
    (place_cut c.args.ceiling bs i p ps k c.in-Some.ensures c.block.ensures c.find_near-k.ensures c.requires.order.0
    c.requires.order.1) ∙ ap (λ (j : ℕ). pairs_of (take i bs) ++ take j ps) none ∙ append-nil (pairs_of (take i bs))))

pub returns-in-None : goal.returns-in-None
returns-in-None c =
    c.whole.ensures ∙ ap reverse
    (sym (below-cut c.args.ceiling (pairs_of c.args.blocks.now) (pairs_of c.args.blocks.now) []
    (all-low c.args.ceiling (pairs_of c.args.blocks.now) c.in-None.ensures)))
