use Rattle.std.proofs.Common.{◌++◌, take, reverse, ap, ◌∙◌}
use Rattle.std.proofs.lemmas.Iterator.{YieldsList-from_take}
use Rattle.std.proofs.lemmas.Iterator.Adapters.{items_from_extend}
use Rattle.std.proofs.lemmas.Iterator.Consumers.{YieldsList-from_first}
use Rattle.local_maps.specs.Pairs.{below}
use Rattle.local_maps.proofs.map.LocalMap.last_pairs.Goals as goal

pub returns : goal.returns
returns c =
    let pairs = take c.args.count (reverse (below c.args.local c.args.self.now.pairs)) in
    let filled = rw c.in_ok-extend.was at (items_from_extend c.extend.result c.extend.ensures.ran
    (YieldsList-from_take c.args.count
    (YieldsList-from_first (λ x. x) (λ s. s) (reverse (below c.args.local c.args.self.now.pairs))
    (c.take.ensures.source ∙ c.pairs_before.ensures))
    c.take.ensures.count)) in
    filled.0 ∙ ap (λ before. before ++ pairs) c.in_ok-taken.ensures.items
