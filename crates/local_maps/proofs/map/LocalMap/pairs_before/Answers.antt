use Rattle.std.proofs.Common.{map, reverse, ltb, sym, ap, ◌∙◌}
use Rattle.indexmap.proofs.ReorderLemmas.{map-reverse}
use Rattle.map_chain.specs.Pairs as chain
use Rattle.local_maps.specs.Pairs.{local_text}
use Rattle.local_maps.proofs.Pairs.{filter-local_text}
use Rattle.local_maps.proofs.map.LocalMap.pairs_before.Goals as goal

pub returns : goal.returns
returns c =
    let pairs = c.self.inside.chain.pairs in
    rw (← c.self.view_is)
    (ap (map local_text) c.before-2.ensures.pairs
    ∙ map-reverse local_text (chain.below c.args.local pairs)
    ∙ ap reverse (sym (filter-local_text (λ pair. ltb pair.local c.args.local) pairs)))
