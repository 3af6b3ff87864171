use Rattle.std.proofs.Common.{◌∙◌, eqb, rules, tests}
use Rattle.std.proofs.lemmas.Iterator.{YieldsList-from_slice}
use Rattle.kom_model.specs.Db.{recipients_of}
use Rattle.kom_model.specs.ToWhom.{recipient_added}
use Rattle.async_fanout.specs.Added.{is_recipient_of}
use Rattle.async_fanout.proofs.added.AddedRows.recipient_count.Goals as goal
use Rattle.std.proofs.lemmas.Iterator.Consumers.{YieldsList-at, YieldsList-from_filter, count_from_yields_List}
use Rattle.async_fanout.proofs.Passing.{count-passing}

pub returns : goal.returns
unfolding recipients_of
returns c =
    count_from_yields_List c.filter.result c.count.result c.count.ensures.ran
    (YieldsList-from_filter _ (is_recipient_of c.args.text)
    (YieldsList-at c.filter.ensures.source (YieldsList-from_slice c.args.self.now.effects.now c.iter.ensures.rest))
    c.filter.ensures.closure (λ x b q k. search (rules, tests)))
    ∙ count-passing recipient_added (λ row. eqb row.text c.args.text) c.args.self.now.effects.now
