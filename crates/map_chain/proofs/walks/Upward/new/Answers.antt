use Rattle.std.proofs.Common.{ℕ, suc, [], ◌++◌, take, drop, sym, ◌∙◌, arith}
use denote.RawPtr.{Ptr}
use Rattle.map_chain.specs.Blocks.{pairs_of}
use Rattle.map_chain.proofs.Linking.{get-within}
use Rattle.map_chain.proofs.Seeking.{block_rising}
use Rattle.map_chain.proofs.Filters.{place_cut, within_block, from-cut, all-low}
use Rattle.map_chain.proofs.Walking.{onward-cut, onward-end}
use Rattle.map_chain.proofs.walks.Upward.new.Goals as goal

pub find_near-k-requires : goal.find_near-k-requires
find_near-k-requires c = block_rising c.args.local c.args.blocks.now c.in-Some.i c.in-Some.at.ptr c.block.result.now
    c.block.ensures c.requires.order.0

pub invariant_of-t-9 : goal.invariant_of-t-9
invariant_of-t-9 c =
    let bs = c.args.blocks.now in let ps = c.block.result.now in let p : Ptr = c.in-Some.at.ptr in
    let within = get-within bs c.in-Some.i (p, ps) c.block.ensures in
    record {
      filled = c.requires.order.1;
      within = omega arith;
      here = λ less. (
        ps,
        c.block.ensures,
        within_block c.args.local bs c.in-Some.i p ps c.find_near-k.result c.in-Some.ensures c.block.ensures
            c.find_near-k.ensures c.requires.order.1,
      );
    }

pub returns-in-Some : goal.returns-in-Some
returns-in-Some c =
    let bs = c.args.blocks.now in let ps = c.block.result.now in let p : Ptr = c.in-Some.at.ptr in
    let i : ℕ = c.in-Some.i in let k : ℕ = c.find_near-k.result in
    onward-cut bs i k p ps c.block.ensures
    ∙ sym (from-cut c.args.local (pairs_of bs) (pairs_of (take i bs) ++ take k ps)
    (drop k ps ++ pairs_of (drop (suc i) bs))
    (place_cut c.args.local bs i p ps k c.in-Some.ensures c.block.ensures c.find_near-k.ensures c.requires.order.0
    c.requires.order.1))

pub returns-in-None : goal.returns-in-None
returns-in-None c =
    let bs = c.args.blocks.now in let n = c.len.ensures.len in
    onward-end bs c.len.result 0 (omega arith)
    ∙ sym (from-cut c.args.local (pairs_of bs) (pairs_of bs) [] (all-low c.args.local (pairs_of bs) c.in-None.ensures))
