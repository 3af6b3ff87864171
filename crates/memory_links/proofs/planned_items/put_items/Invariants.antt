-- The items so far are those of the planned ones so far.
use Rattle.std.proofs.Common.{◌≡◌, map, take, length}
use Rattle.memory_links.specs.PlannedItems.{item_of}
use Rattle.memory_links.proofs.planned_items.put_items.Given as goal

abbrev pub invariant-loop-item : goal.invariant-loop-item
invariant-loop-item l = record {
  put : l.into.items ≡ map item_of (take l.item-index l.items);
  count : length l.into.items ≡ l.item-index;
}
