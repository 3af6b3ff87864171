use Rattle.std.proofs.Common.{◌≡◌, take}
use Rattle.kom_types.specs.AuxItems.{items_from}
use Rattle.kom_state.proofs.item_changes.new_items.Given as goal

abbrev pub invariant-loop-place : goal.invariant-loop-place
invariant-loop-place l = l.items ≡ items_from l.first l.creator l.at (take l.place l.given)
