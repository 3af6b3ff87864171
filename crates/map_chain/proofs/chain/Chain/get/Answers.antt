use Rattle.std.proofs.Common.{ℕ, suc, ◌++◌, take, drop, sym, ap, ◌∙◌}
use Rattle.map_chain.specs.Pairs.{text_of}
use Rattle.map_chain.specs.Blocks.{pairs_of}
use Rattle.map_chain.proofs.Linking.{IsAt-node}
use Rattle.map_chain.proofs.Seeking.{block_rising}
use Rattle.map_chain.proofs.Filters.{found_cut, within_block, text-none, text-found, text-absent}
use Rattle.map_chain.proofs.chain.Chain.get.Goals as goal

pub returns-in_err-at-clause-text : goal.returns-in_err-at-clause-text
returns-in_err-at-clause-text c =
    c.from_residual.ensures ∙ sym (text-none c.args.local (pairs_of c.self.inside.used) c.in_err-at.ensures)
    ∙ ap (λ v. text_of c.args.local v.pairs) c.self.view_is

pub block-block-requires : goal.block-block-requires
block-block-requires c =
    let s = c.in_ok-at.ensures in IsAt-node c.self.inside.used c.in_ok-at.i c.in_ok-at.at.ptr s.pairs s.is

pub find-requires : goal.find-requires
find-requires c = block_rising c.args.local c.self.inside.used c.in_ok-at.i c.in_ok-at.at.ptr c.block-block.result.now
    c.block-block.ensures c.self.invariant.0.rising

pub pair-found-requires : goal.pair-found-requires
pair-found-requires c =
    within_block c.args.local c.self.inside.used c.in_ok-at.i c.in_ok-at.at.ptr c.block-block.result.now c.find.result
    c.in_ok-at.ensures c.block-block.ensures c.find.ensures c.self.invariant.0.filled

pub returns-then-found-local-clause-text : goal.returns-then-found-local-clause-text
returns-then-found-local-clause-text c =
    let bs = c.self.inside.used in let v = c.self.invariant.0 in let i : ℕ = c.in_ok-at.i in
    let k : ℕ = c.find.result in let ps = c.block-block.result.now in let q = c.pair-found.result in
    sym (text-found c.args.local (pairs_of bs) (pairs_of (take i bs) ++ take k ps) q
    (drop (suc k) ps ++ pairs_of (drop (suc i) bs))
    (found_cut c.args.local bs i c.in_ok-at.at.ptr ps k q c.in_ok-at.ensures c.block-block.ensures c.find.ensures
    c.pair-found.ensures v.rising v.filled) v.rising c.if-found-local.true)
    ∙ ap (λ w. text_of c.args.local w.pairs) c.self.view_is

pub returns-else-found-local-clause-text : goal.returns-else-found-local-clause-text
returns-else-found-local-clause-text c =
    let bs = c.self.inside.used in let v = c.self.invariant.0 in let i : ℕ = c.in_ok-at.i in
    let k : ℕ = c.find.result in let ps = c.block-block.result.now in let q = c.pair-found.result in
    sym (text-absent c.args.local (pairs_of bs) (pairs_of (take i bs) ++ take k ps) q
    (drop (suc k) ps ++ pairs_of (drop (suc i) bs))
    (found_cut c.args.local bs i c.in_ok-at.at.ptr ps k q c.in_ok-at.ensures c.block-block.ensures c.find.ensures
    c.pair-found.ensures v.rising v.filled) v.rising c.if-found-local.false)
    ∙ ap (λ w. text_of c.args.local w.pairs) c.self.view_is
