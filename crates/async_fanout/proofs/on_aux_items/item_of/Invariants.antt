use Rattle.std.proofs.Common.{◌≡◌, ◌==◌, None, true, take}
use Rattle.std.specs.List.{find}
use Rattle.kom_model.specs.Db.{items_of}
use Rattle.async_fanout.proofs.on_aux_items.item_of.Given as goal

-- no item before the place has the number
abbrev pub invariant-loop-place : goal.invariant-loop-place
invariant-loop-place l =
    find (λ item. item.number == l.number) (take l.place (items_of l.rows.db true l.text)) ≡ None
