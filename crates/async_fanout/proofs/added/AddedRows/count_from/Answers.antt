use Rattle.std.proofs.Common.{◌∙◌, ◌&&◌, eqb, rules, tests}
use Rattle.std.proofs.lemmas.Iterator.{YieldsList-from_slice}
use Rattle.kom_types.specs.Bits.{alike}
use Rattle.kom_model.specs.Db.{links_from}
use Rattle.kom_model.specs.ToWhom.{link_added}
use Rattle.async_fanout.specs.Added.{is_from}
use Rattle.async_fanout.proofs.added.AddedRows.count_from.Goals as goal
use Rattle.std.proofs.lemmas.Iterator.Consumers.{YieldsList-at, YieldsList-from_filter, count_from_yields_List}
use Rattle.async_fanout.proofs.Passing.{count-passing}

pub returns : goal.returns
unfolding links_from
returns c =
    count_from_yields_List c.filter.result c.count.result c.count.ensures.ran
    (YieldsList-from_filter _ (is_from c.args.text c.args.footnote)
    (YieldsList-at c.filter.ensures.source (YieldsList-from_slice c.args.self.now.effects.now c.iter.ensures.rest))
    c.filter.ensures.closure (λ x b q k. search (rules, tests)))
    ∙ count-passing link_added (λ row. eqb row.child c.args.text && alike row.footnote c.args.footnote)
    c.args.self.now.effects.now
