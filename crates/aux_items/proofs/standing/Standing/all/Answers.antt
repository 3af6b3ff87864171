use Rattle.std.proofs.Common.{[], ◌∙◌}
use Rattle.std.proofs.lemmas.List.{append-nil}
use Rattle.kom_types.specs.AuxItems.{left_after}
use Rattle.aux_items.proofs.Standings.{left-all}
use Rattle.aux_items.proofs.standing.Standing.all.Goals as goal

pub returns : goal.returns
returns g c =
    let items = g.R.ItemList.items c.args.rows.now in
    append-nil (left_after [] items) ∙ left-all items
