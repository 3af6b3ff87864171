use Rattle.std.proofs.Common.{◌≡◌, ◌+◌, not, drop, filter, length}
use Rattle.kom_types.specs.AuxItems.{is_among}
use Rattle.aux_items.proofs.standing.count_left.Given as goal

abbrev pub invariant-loop-place : goal.invariant-loop-place
invariant-loop-place g l =
    l.count
    + length (filter (λ item. not (is_among l.deleted item.number)) (drop l.place (g.R.ItemList.items l.rows)))
    ≡ length (filter (λ item. not (is_among l.deleted item.number)) (g.R.ItemList.items l.rows))
