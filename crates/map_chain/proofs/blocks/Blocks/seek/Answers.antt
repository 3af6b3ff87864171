use Rattle.std.proofs.Common.{◌≡◌, ℕ, suc, ◌+◌, ◌<◌, length, take, get_or, sym, subst, arith}
use Rattle.std.proofs.lemmas.List.{take_all}
use denote.RawPtr.{Ptr}
use Rattle.map_chain.specs.Nodes.{IsAt}
use Rattle.map_chain.specs.Pairs.{AllBelow}
use Rattle.map_chain.specs.Blocks.{PlacedBlocks, pairs_of}
use Rattle.map_chain.specs.Index.{IsIndexOf}
use Rattle.map_chain.specs.Keys.{IsNearest}
use Rattle.map_chain.specs.declared.index.Index.{Index}
use Rattle.map_chain.specs.declared.nodes.Place.{Place}
use Rattle.map_chain.proofs.Linking.{node_at}
use Rattle.map_chain.proofs.Seeking.{below_all, filled_at}
use Rattle.map_chain.proofs.Indexing.{places_length, place_at}
use Rattle.map_chain.proofs.Keys.{keys_length, before_nearest, passed_reaches}
use Rattle.map_chain.proofs.blocks.Blocks.seek.Goals as goal

module _ (n : ℕ) (bs : PlacedBlocks) (x : Index) (v : IsIndexOf x bs) where
  inside : (i : ℕ) → IsNearest n x.keys.items i → i < length bs
  inside i near = let keys = keys_length x.keys.items bs v.keys in let within = near.within in omega arith

  -- the place in the index that was read
  lies_at : (j : ℕ) (p : Place) → j < length bs → p ≡ get_or x.places.items j p → IsAt bs j p.ptr
  lies_at j p h e = subst (λ (r : Place). IsAt bs j r.ptr) (sym e) (place_at x.places.items bs j p v.places h)

pub index-at-requires : goal.index-at-requires
index-at-requires c =
    let bs = c.args.self.now in let x = c.args.index.now in let v = c.requires.index in let long = x.places.ok.0 in
    let places = places_length x.places.items bs v.places in
    let within = inside c.args.local bs x v c.nearest-i.result c.nearest-i.ensures in omega arith

pub block-requires : goal.block-requires
block-requires c =
    let bs = c.args.self.now in let x = c.args.index.now in let v = c.requires.index in
    let i : ℕ = c.nearest-i.result in
    lies_at c.args.local bs x v i c.index-at.result.now (inside c.args.local bs x v i c.nearest-i.ensures)
    c.index-at.ensures

pub returns-then-local-high : goal.returns-then-local-high
returns-then-local-high c =
    let bs = c.args.self.now in let x = c.args.index.now in let v = c.requires.index in
    let i : ℕ = c.nearest-i.result in
    let high = c.high.ensures in let test = c.if-local-high.true in
    record {
      pairs = c.block.result.now;
      is = c.block.ensures;
      before = before_nearest c.args.local x.keys.items bs i v.keys c.nearest-i.ensures;
      reached = omega arith;
    }

pub returns-then-i-len : goal.returns-then-i-len
returns-then-i-len c =
    let n : ℕ = c.args.local in let bs = c.args.self.now in let x = c.args.index.now in
    let i : ℕ = c.nearest-i.result in
    let places = places_length x.places.items bs c.requires.index.places in let long = x.places.ok.0 in
    let high = c.high.ensures in let test = c.if-local-high.false in let len = c.len.ensures in
    let last = c.if-i-len.true in
    let below = below_all n bs i c.index-at.result.now.ptr c.block.result.now c.block.ensures c.requires.order.0
    c.requires.order.1 (omega arith) in
    subst (λ (cs : PlacedBlocks). AllBelow n (pairs_of cs)) (take_all (suc i) bs (omega arith)) below

pub index-requires : goal.index-requires
index-requires c =
    let bs = c.args.self.now in let x = c.args.index.now in let v = c.requires.index in let long = x.places.ok.0 in
    let places = places_length x.places.items bs v.places in let len = c.len.ensures in let more = c.if-i-len.false in
    let within = inside c.args.local bs x v c.nearest-i.result c.nearest-i.ensures in omega arith

pub returns : goal.returns
returns c =
    let n : ℕ = c.args.local in let bs = c.args.self.now in let x = c.args.index.now in let v = c.requires.index in
    let i : ℕ = c.nearest-i.result in
    let at = c.nearest-i.ensures in let within = inside n bs x v i at in
    let places = places_length x.places.items bs v.places in let keys = keys_length x.keys.items bs v.keys in
    let long = x.places.ok.0 in
    let high = c.high.ensures in let test = c.if-local-high.false in let len = c.len.ensures in
    let more = c.if-i-len.false in
    let next : suc i ≡ i + 1 = omega arith in let p : Ptr = c.index.result.now.ptr in
    let found = node_at bs (i + 1) p
    (lies_at n bs x v (i + 1) c.index.result.now (omega arith) c.index.ensures) in
    let passed : n < get_or x.keys.items (i + 1) 0 = subst (λ (j : ℕ). n < get_or x.keys.items j 0) next
    (at.passed (omega arith)) in
    record {
      pairs = found.0;
      is = found.1;
      before = subst (λ (j : ℕ). AllBelow n (pairs_of (take j bs))) next
          (below_all n bs i c.index-at.result.now.ptr c.block.result.now c.block.ensures c.requires.order.0
          c.requires.order.1 (omega arith));
      reached = passed_reaches n x.keys.items bs (i + 1) p found.0 v.keys found.1
          (filled_at bs (i + 1) p found.0 c.requires.order.1 found.1).0 passed;
    }
