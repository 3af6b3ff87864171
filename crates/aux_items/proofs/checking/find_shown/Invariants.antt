use Rattle.std.proofs.Common.{◌≡◌, ◌==◌, ◌&&◌, drop, find}
use Rattle.kom_types.specs.AuxItems.{is_shown}
use Rattle.aux_items.proofs.checking.find_shown.Given as goal

abbrev pub invariant-loop-place : goal.invariant-loop-place
invariant-loop-place g l =
    find (λ item. item.number == l.number && is_shown l.by item) (drop l.place (g.R.ItemList.items l.rows))
    ≡ find (λ item. item.number == l.number && is_shown l.by item) (g.R.ItemList.items l.rows)
