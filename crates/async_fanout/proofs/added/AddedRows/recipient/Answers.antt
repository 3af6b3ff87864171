use Rattle.std.proofs.Common.{◌∙◌, eqb, rules, tests}
use Rattle.std.proofs.lemmas.Iterator.{YieldsList-from_slice}
use Rattle.kom_model.specs.Db.{recipients_of}
use Rattle.kom_model.specs.ToWhom.{recipient_added}
use Rattle.async_fanout.specs.Added.{is_recipient_of}
use Rattle.async_fanout.proofs.added.AddedRows.recipient.Goals as goal
use Rattle.std.proofs.lemmas.Iterator.Consumers.{YieldsList-at, YieldsList-from_filter, nth_from_yields_List}
use Rattle.async_fanout.proofs.Passing.{found-none, found-some}

pub returns-in_err-effect : goal.returns-in_err-effect
unfolding recipients_of
returns-in_err-effect c =
    c.from_residual.ensures
    ∙ found-none recipient_added (λ row. eqb row.text c.args.text) c.args.self.now.effects.now c.args.place
    c.nth.result c.in_err-effect.was
    (nth_from_yields_List c.nth.result _ c.args.place c.nth.ensures.ran
    (YieldsList-from_filter _ (is_recipient_of c.args.text)
    (YieldsList-at c.filter.ensures.source (YieldsList-from_slice c.args.self.now.effects.now c.iter.ensures.rest))
    c.filter.ensures.closure (λ x b q k. search (rules, tests))))

pub returns : goal.returns
unfolding recipients_of
returns c =
    c.recipient_in.ensures
    ∙ found-some recipient_added (λ row. eqb row.text c.args.text) c.args.self.now.effects.now c.args.place
    c.nth.result c.in_ok-effect.effect
    c.in_ok-effect.was
    (nth_from_yields_List c.nth.result _ c.args.place c.nth.ensures.ran
    (YieldsList-from_filter _ (is_recipient_of c.args.text)
    (YieldsList-at c.filter.ensures.source (YieldsList-from_slice c.args.self.now.effects.now c.iter.ensures.rest))
    c.filter.ensures.closure (λ x b q k. search (rules, tests))))
