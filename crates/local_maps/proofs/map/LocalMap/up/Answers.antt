use Rattle.std.proofs.Common.{ltb, ap, ◌∙◌}
use Rattle.std.proofs.lemmas.Result.{IfOk-weaker}
use Rattle.local_maps.specs.Pairs.{from_on}
use Rattle.local_maps.proofs.Parts.{take-one_more, more-one_more}
use Rattle.local_maps.proofs.map.LocalMap.up.Goals as goal

pub returns : goal.returns
returns c =
    let pairs = c.args.self.now.pairs in
    let count = c.args.count in
    let above = from_on c.args.first pairs in
    let taken = c.in_ok-taken.taken in
    IfOk-weaker c.upward.result _ _
    (λ mapping is. is pairs count record {
      pairs = c.truncate.ensures.items ∙ take-one_more count above taken.items c.in_ok-taken.ensures.pairs;
      more = ap (ltb count) (c.len.ensures ∙ taken.ok.0)
          ∙ more-one_more count above taken.items c.in_ok-taken.ensures.pairs;
      rising = c.first_pairs.ensures.rising;
      fits = rw (← c.self.view_is) c.self.invariant;
    })
    c.upward.ensures
