use Rattle.std.proofs.Common.{ℕ, suc, ◌++◌, take, drop, sym, ap, ◌∙◌}
use Rattle.map_chain.specs.Pairs.{text_of, without}
use Rattle.map_chain.specs.Blocks.{pairs_of}
use Rattle.map_chain.proofs.Linking.{IsAt-node}
use Rattle.map_chain.proofs.Seeking.{block_rising}
use Rattle.map_chain.proofs.Filters.{found_cut, within_block, text-none, text-found, text-absent, without-none}
use Rattle.map_chain.proofs.Filters.{without-found, without-absent}
use Rattle.map_chain.proofs.Growing.{pairs_left, chain_left}
use Rattle.map_chain.proofs.chain.Chain.remove.Goals as goal

pub returns-in_err-at-clause-text : goal.returns-in_err-at-clause-text
returns-in_err-at-clause-text c =
    c.from_residual.ensures ∙ sym (text-none c.args.local (pairs_of c.self.inside.used) c.in_err-at.ensures)
    ∙ ap (λ v. text_of c.args.local v.pairs) c.self.view_is

pub returns-in_err-at-clause-pairs : goal.returns-in_err-at-clause-pairs
returns-in_err-at-clause-pairs c =
    sym (ap (λ v. v.pairs) c.self.view_is)
    ∙ sym (without-none c.args.local (pairs_of c.self.inside.used) c.in_err-at.ensures)
    ∙ ap (λ v. without c.args.local v.pairs) c.self.view_is

pub block-block-requires : goal.block-block-requires
block-block-requires c =
    let s = c.in_ok-at.ensures in IsAt-node c.self.inside.used c.in_ok-at.i c.in_ok-at.at.ptr s.pairs s.is

pub find_near-k-requires : goal.find_near-k-requires
find_near-k-requires c =
    block_rising c.args.local c.self.inside.used c.in_ok-at.i c.in_ok-at.at.ptr c.block-block.result.now
    c.block-block.ensures c.self.invariant.0.rising

pub pair-found-requires : goal.pair-found-requires
pair-found-requires c =
    within_block c.args.local c.self.inside.used c.in_ok-at.i c.in_ok-at.at.ptr c.block-block.result.now
    c.find_near-k.result c.in_ok-at.ensures c.block-block.ensures c.find_near-k.ensures c.self.invariant.0.filled

pub returns-then-found-local-clause-text : goal.returns-then-found-local-clause-text
returns-then-found-local-clause-text c =
    let bs = c.self.inside.used in let v = c.self.invariant.0 in let i : ℕ = c.in_ok-at.i in
    let k : ℕ = c.find_near-k.result in let ps = c.block-block.result.now in let q = c.pair-found.result in
    sym (text-absent c.args.local (pairs_of bs) (pairs_of (take i bs) ++ take k ps) q
    (drop (suc k) ps ++ pairs_of (drop (suc i) bs))
    (found_cut c.args.local bs i c.in_ok-at.at.ptr ps k q c.in_ok-at.ensures c.block-block.ensures c.find_near-k.ensures
    c.pair-found.ensures v.rising v.filled) v.rising c.if-found-local.true)
    ∙ ap (λ w. text_of c.args.local w.pairs) c.self.view_is

pub returns-then-found-local-clause-pairs : goal.returns-then-found-local-clause-pairs
returns-then-found-local-clause-pairs c =
    let bs = c.self.inside.used in let v = c.self.invariant.0 in let i : ℕ = c.in_ok-at.i in
    let k : ℕ = c.find_near-k.result in let ps = c.block-block.result.now in let q = c.pair-found.result in
    sym (ap (λ w. w.pairs) c.self.view_is)
    ∙ sym (without-absent c.args.local (pairs_of bs) (pairs_of (take i bs) ++ take k ps) q
    (drop (suc k) ps ++ pairs_of (drop (suc i) bs))
    (found_cut c.args.local bs i c.in_ok-at.at.ptr ps k q c.in_ok-at.ensures c.block-block.ensures c.find_near-k.ensures
    c.pair-found.ensures v.rising v.filled) v.rising c.if-found-local.true)
    ∙ ap (λ w. without c.args.local w.pairs) c.self.view_is

pub take_pair-requires-clause-within : goal.take_pair-requires-clause-within
take_pair-requires-clause-within c =
    let bs = c.self.inside.used in let ps = c.block-block.result.now in let p = c.in_ok-at.at.ptr in (
      p,
      ps,
      c.block-block.ensures,
      within_block c.args.local bs c.in_ok-at.i p ps c.find_near-k.result c.in_ok-at.ensures c.block-block.ensures
          c.find_near-k.ensures c.self.invariant.0.filled,
    )

pub invariant_of-self : goal.invariant_of-self
invariant_of-self c =
    let bs = c.self.inside.used in let sp = c.self.inside.spare in let v = c.self.invariant.0 in
    let i : ℕ = c.in_ok-at.i in let k : ℕ = c.find_near-k.result in let ps = c.block-block.result.now in
    let q = c.pair-found.result in let p = c.in_ok-at.at.ptr in let low = pairs_of (take i bs) ++ take k ps in
    let high = drop (suc k) ps ++ pairs_of (drop (suc i) bs) in (
      chain_left bs sp c.take_pair.new.used c.take_pair.new.spare i k c.self.inside.len low q high v
          c.take_pair.ensures.lost
          (found_cut c.args.local bs i p ps k q c.in_ok-at.ensures c.block-block.ensures c.find_near-k.ensures
          c.pair-found.ensures v.rising v.filled).is
          (pairs_left bs sp c.take_pair.new.used c.take_pair.new.spare i k p ps c.take_pair.ensures.lost
          c.block-block.ensures),
      c.take_pair.ensures.index,
    )

pub returns-clause-text : goal.returns-clause-text
returns-clause-text c =
    let bs = c.self.inside.used in let v = c.self.invariant.0 in let i : ℕ = c.in_ok-at.i in
    let k : ℕ = c.find_near-k.result in let ps = c.block-block.result.now in let q = c.pair-found.result in
    sym (text-found c.args.local (pairs_of bs) (pairs_of (take i bs) ++ take k ps) q
    (drop (suc k) ps ++ pairs_of (drop (suc i) bs))
    (found_cut c.args.local bs i c.in_ok-at.at.ptr ps k q c.in_ok-at.ensures c.block-block.ensures c.find_near-k.ensures
    c.pair-found.ensures v.rising v.filled) v.rising c.if-found-local.false)
    ∙ ap (λ w. text_of c.args.local w.pairs) c.self.view_is

pub returns-clause-pairs : goal.returns-clause-pairs
returns-clause-pairs c =
    let bs = c.self.inside.used in let sp = c.self.inside.spare in let v = c.self.invariant.0 in
    let i : ℕ = c.in_ok-at.i in let k : ℕ = c.find_near-k.result in let ps = c.block-block.result.now in
    let q = c.pair-found.result in let p = c.in_ok-at.at.ptr in
    pairs_left bs sp c.take_pair.new.used c.take_pair.new.spare i k p ps c.take_pair.ensures.lost c.block-block.ensures
    ∙ sym (without-found c.args.local (pairs_of bs) (pairs_of (take i bs) ++ take k ps) q
    (drop (suc k) ps ++ pairs_of (drop (suc i) bs))
    (found_cut c.args.local bs i p ps k q c.in_ok-at.ensures c.block-block.ensures c.find_near-k.ensures
    c.pair-found.ensures v.rising v.filled) v.rising c.if-found-local.false)
    ∙ ap (λ w. without c.args.local w.pairs) c.self.view_is
