use Rattle.std.proofs.Common.{◌≡◌, ◌==◌, ◌&&◌, not, drop}
use Rattle.std.specs.List.{list_any}
use Rattle.kom_types.specs.AuxItems.{is_among}
use Rattle.aux_items.proofs.standing.has_left_by.Given as goal

abbrev pub invariant-loop-place : goal.invariant-loop-place
invariant-loop-place g l =
    list_any (λ item. (item.tag == l.tag && item.creator == l.creator) && not (is_among l.deleted item.number))
    (drop l.place (g.R.ItemList.items l.rows))
    ≡ list_any (λ item. (item.tag == l.tag && item.creator == l.creator) && not (is_among l.deleted item.number))
    (g.R.ItemList.items l.rows)
