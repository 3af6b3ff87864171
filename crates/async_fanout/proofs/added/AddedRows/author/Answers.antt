use Rattle.std.proofs.Common.{◌∙◌, Bool, ap, eqb, rules, tests}
use Rattle.std.specs.List.{filter_map}
use Rattle.std.specs.Option.{option_map}
use Rattle.std.proofs.lemmas.Iterator.{YieldsList-from_slice}
use Rattle.std.proofs.lemmas.Iterator.Consumers.{YieldsList-at, YieldsList-from_filter, nth_from_yields_List}
use Rattle.kom_types.specs.declared.texts.TextRow.{TextRow}
use Rattle.kom_model.specs.Db.{text_of, text_author_of}
use Rattle.kom_model.specs.ToWhom.{text_added}
use Rattle.async_fanout.specs.Added.{is_text}
use Rattle.async_fanout.proofs.Passing.{found-none, found-some, find-first}
use Rattle.async_fanout.proofs.added.AddedRows.author.Goals as goal

pub returns-in_err-effect : goal.returns-in_err-effect
unfolding text_author_of text_of
returns-in_err-effect c =
    let test : TextRow → Bool = λ row. eqb row.number c.args.text in
    c.from_residual.ensures
    ∙ ap (option_map (λ (row : TextRow). row.author))
    (found-none text_added test c.args.self.now.effects.now 0 c.nth.result c.in_err-effect.was
    (nth_from_yields_List c.nth.result _ 0 c.nth.ensures.ran
    (YieldsList-from_filter _ (is_text c.args.text)
    (YieldsList-at c.filter.ensures.source (YieldsList-from_slice c.args.self.now.effects.now c.iter.ensures.rest))
    c.filter.ensures.closure (λ x b q k. search (rules, tests))))
    ∙ find-first test (filter_map text_added c.args.self.now.effects.now))

pub returns : goal.returns
unfolding text_author_of text_of
returns c =
    let test : TextRow → Bool = λ row. eqb row.number c.args.text in
    c.author_in.ensures
    ∙ ap (option_map (λ (row : TextRow). row.author))
    (found-some text_added test c.args.self.now.effects.now 0 c.nth.result c.in_ok-effect.effect c.in_ok-effect.was
    (nth_from_yields_List c.nth.result _ 0 c.nth.ensures.ran
    (YieldsList-from_filter _ (is_text c.args.text)
    (YieldsList-at c.filter.ensures.source (YieldsList-from_slice c.args.self.now.effects.now c.iter.ensures.rest))
    c.filter.ensures.closure (λ x b q k. search (rules, tests))))
    ∙ find-first test (filter_map text_added c.args.self.now.effects.now))
