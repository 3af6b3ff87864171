use Rattle.std.proofs.Common.{◌∙◌, sym, filter, rules, tests}
use Rattle.std.proofs.lemmas.Iterator.{YieldsList-from_slice}
use Rattle.kom_model.specs.Db.{items_of}
use Rattle.kom_model.specs.ToWhom.{item_added}
use Rattle.async_fanout.specs.Added.{is_item}
use Rattle.async_fanout.proofs.added.AddedRows.item_count.Goals as goal
use Rattle.kom_types.specs.tables.AuxItems.{is_item_of}
use Rattle.std.specs.List.{filter_map}
use Rattle.kom_types.specs.declared.aux_items.ItemRow.{ItemRow}
use Rattle.std.proofs.lemmas.Iterator.Consumers.{YieldsList-at, YieldsList-from_filter, count_from_yields_List}
use Rattle.async_fanout.proofs.Passing.{count-passing}
use Rattle.std.proofs.lemmas.List.{length-map}

pub returns : goal.returns
unfolding items_of
returns c =
    count_from_yields_List c.filter.result c.count.result c.count.ensures.ran
    (YieldsList-from_filter _ (is_item c.args.on_text c.args.object)
    (YieldsList-at c.filter.ensures.source (YieldsList-from_slice c.args.self.now.effects.now c.iter.ensures.rest))
    c.filter.ensures.closure (λ x b q k. search (rules, tests)))
    ∙ count-passing item_added (is_item_of c.args.on_text c.args.object) c.args.self.now.effects.now
    ∙ sym (length-map (filter (is_item_of c.args.on_text c.args.object)
    (filter_map item_added c.args.self.now.effects.now))
    (λ (row : ItemRow). row.item))
