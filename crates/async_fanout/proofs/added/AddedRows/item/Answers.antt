use Rattle.std.proofs.Common.{◌∙◌, sym, ap, filter, rules, tests}
use Rattle.std.proofs.lemmas.Iterator.{YieldsList-from_slice}
use Rattle.kom_model.specs.Db.{items_of}
use Rattle.kom_model.specs.ToWhom.{item_added}
use Rattle.async_fanout.specs.Added.{is_item}
use Rattle.async_fanout.proofs.added.AddedRows.item.Goals as goal
use Rattle.kom_types.specs.tables.AuxItems.{is_item_of}
use Rattle.std.specs.List.{filter_map}
use Rattle.kom_types.specs.declared.aux_items.ItemRow.{ItemRow}
use Rattle.std.proofs.lemmas.Iterator.Consumers.{YieldsList-at, YieldsList-from_filter, nth_from_yields_List}
use Rattle.async_fanout.proofs.Passing.{found-none, found-some}
use Rattle.std.specs.Option.{option_map, option_copied}
use Rattle.std.proofs.lemmas.Option.{slice_get-map}

pub returns-in_err-effect : goal.returns-in_err-effect
unfolding items_of
returns-in_err-effect c =
    ap option_copied c.from_residual.ensures
    ∙ ap (option_map (λ (row : ItemRow). row.item))
    (found-none item_added (is_item_of c.args.on_text c.args.object) c.args.self.now.effects.now c.args.place
    c.nth.result c.in_err-effect.was
    (nth_from_yields_List c.nth.result _ c.args.place c.nth.ensures.ran
    (YieldsList-from_filter _ (is_item c.args.on_text c.args.object)
    (YieldsList-at c.filter.ensures.source (YieldsList-from_slice c.args.self.now.effects.now c.iter.ensures.rest))
    c.filter.ensures.closure (λ x b q k. search (rules, tests)))))
    ∙ sym (slice_get-map (λ (row : ItemRow). row.item)
    (filter (is_item_of c.args.on_text c.args.object) (filter_map item_added c.args.self.now.effects.now)) c.args.place)

pub returns : goal.returns
unfolding items_of
returns c =
    c.item_in.ensures
    ∙ ap (option_map (λ (row : ItemRow). row.item))
    (found-some item_added (is_item_of c.args.on_text c.args.object) c.args.self.now.effects.now c.args.place
    c.nth.result c.in_ok-effect.effect
    c.in_ok-effect.was
    (nth_from_yields_List c.nth.result _ c.args.place c.nth.ensures.ran
    (YieldsList-from_filter _ (is_item c.args.on_text c.args.object)
    (YieldsList-at c.filter.ensures.source (YieldsList-from_slice c.args.self.now.effects.now c.iter.ensures.rest))
    c.filter.ensures.closure (λ x b q k. search (rules, tests)))))
    ∙ sym (slice_get-map (λ (row : ItemRow). row.item)
    (filter (is_item_of c.args.on_text c.args.object) (filter_map item_added c.args.self.now.effects.now)) c.args.place)
