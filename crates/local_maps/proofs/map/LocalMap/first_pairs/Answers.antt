use Rattle.std.proofs.Common.{◌++◌, take, ap, ◌∙◌}
use Rattle.std.proofs.lemmas.Iterator.{YieldsList-from_take}
use Rattle.std.proofs.lemmas.Iterator.Adapters.{items_from_extend}
use Rattle.std.proofs.lemmas.Iterator.Consumers.{YieldsList-from_first}
use Rattle.local_maps.specs.Pairs.{from_on}
use Rattle.local_maps.proofs.map.LocalMap.first_pairs.Goals as goal

pub returns-clause-pairs : goal.returns-clause-pairs
returns-clause-pairs c =
    let pairs = take c.args.count (from_on c.args.local c.args.self.now.pairs) in
    let filled = rw c.in_ok-extend.was at (items_from_extend c.extend.result c.extend.ensures.ran
    (YieldsList-from_take c.args.count
    (YieldsList-from_first (λ x. x) (λ s. s) (from_on c.args.local c.args.self.now.pairs)
    (c.take.ensures.source ∙ c.pairs_from.ensures.pairs))
    c.take.ensures.count)) in
    filled.0 ∙ ap (λ before. before ++ pairs) c.in_ok-taken.ensures.items
