use Rattle.std.proofs.Common.{ℕ, List, sym, subst, arith}
use Rattle.map_chain.specs.Nodes.{IsAt}
use Rattle.map_chain.specs.Blocks.{PlacedBlocks}
use Rattle.map_chain.specs.Index.{ArePlacesOf}
use Rattle.map_chain.specs.Keys.{AreKeysOf}
use Rattle.map_chain.specs.declared.nodes.Place.{Place}
use Rattle.map_chain.proofs.Indexing.{place_at, places-remove}
use Rattle.map_chain.proofs.Keys.{keys_length, keys-remove}
use Rattle.map_chain.proofs.joining.take_block.Goals as goal

pub remove-index-requires : goal.remove-index-requires
remove-index-requires c =
    let x = c.args.index.now in let same = keys_length x.keys.items c.args.used.now c.requires.index.keys in
    let long = x.keys.ok.0 in let within = c.requires.within in omega arith

pub unlink-requires : goal.unlink-requires
unlink-requires c =
    let used = c.args.used.now in let at = c.remove-at.result in
    subst (λ (p : Place). IsAt used c.args.i p.ptr) (sym c.remove-at.ensures.value)
    (place_at c.args.index.now.places.items used c.args.i at c.requires.index.places c.requires.within)

pub returns-clause-index : goal.returns-clause-index
returns-clause-index c =
    let x = c.args.index.now in let used = c.args.used.now in let blocks = c.requires.index in
    record {
      places = subst (λ (w : List Place × PlacedBlocks). ArePlacesOf w.0 w.1)
          (λ j. (sym c.remove-at.ensures.items j, sym c.unlink.ensures.others j))
          (places-remove x.places.items used c.args.i blocks.places);
      keys = subst (λ (w : List ℕ × PlacedBlocks). AreKeysOf w.0 w.1)
          (λ j. (sym c.remove-index.ensures.items j, sym c.unlink.ensures.others j))
          (keys-remove x.keys.items used c.args.i blocks.keys);
    }
