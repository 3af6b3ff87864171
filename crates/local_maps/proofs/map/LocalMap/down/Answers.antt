use Rattle.std.proofs.Common.{ltb, ◌+◌, take, reverse, ap, ◌∙◌}
use Rattle.std.proofs.lemmas.List.{length-reverse}
use Rattle.std.proofs.lemmas.Result.{IfOk-weaker}
use Rattle.kom_types.specs.Mappings.{end_below}
use Rattle.local_maps.specs.Pairs.{below}
use Rattle.local_maps.proofs.Parts.{take-one_more, more-one_more, taken_back, mapping_down-taken}
use Rattle.local_maps.proofs.map.LocalMap.down.Goals as goal

pub returns : goal.returns
returns c =
    let pairs = c.args.self.now.pairs in
    let count = c.args.count in
    let low = below (end_below c.args.next c.args.ceiling) pairs in
    let taken = c.in_ok-taken.taken in
    let walked =
    c.in_ok-taken.ensures ∙ ap (λ end. take (count + 1) (reverse (below end pairs))) c.end_below-end.ensures in
    IfOk-weaker c.downward.result _ _
    (λ mapping is. is ∙ mapping_down-taken pairs c.args.next c.args.ceiling count _ _ _ c.end_below-end.ensures
    (c.reverse.ensures.items
    ∙ ap reverse (c.truncate.ensures.items ∙ take-one_more count (reverse low) taken.items walked)
    ∙ taken_back count low)
    (ap (ltb count) (c.len.ensures ∙ taken.ok.0)
    ∙ more-one_more count (reverse low) taken.items walked
    ∙ ap (ltb count) (length-reverse low)))
    c.downward.ensures
