use Rattle.std.proofs.Common.{map, leb, sym, ap, ◌∙◌}
use Rattle.local_maps.specs.Pairs.{local_text}
use Rattle.local_maps.proofs.Pairs.{filter-local_text, rising-local_text}
use Rattle.local_maps.proofs.map.LocalMap.pairs_from.Goals as goal

pub returns-clause-pairs : goal.returns-clause-pairs
returns-clause-pairs c =
    rw (← c.self.view_is)
    (ap (map local_text) c.from.ensures.pairs
    ∙ sym (filter-local_text (λ pair. leb c.args.local pair.local) c.self.inside.chain.pairs))

pub returns-clause-rising : goal.returns-clause-rising
returns-clause-rising c = rw (← c.self.view_is) (rising-local_text c.self.inside.chain.pairs c.from.ensures.rising)

pub returns-clause-fits : goal.returns-clause-fits
returns-clause-fits c = rw (← c.self.view_is) c.self.invariant
