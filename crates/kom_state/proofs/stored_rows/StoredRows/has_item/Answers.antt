use Rattle.std.proofs.Common.{is_some, sym, ap, ◌∙◌}
use Rattle.aux_items.specs.Items.{item_numbered}
use Rattle.kom_state.proofs.FittedItems.{has_item-is}
use Rattle.kom_state.proofs.stored_rows.StoredRows.has_item.Goals as goal

pub returns : goal.returns
returns c =
    let on_text = c.args.on_text in let object = c.args.object in let number = c.args.number in
    c.has.ensures ∙ ap (λ s. is_some (item_numbered on_text object number s.db.items)) c.self.view_is
    ∙ sym (has_item-is c.args.self.now.db on_text object number)
