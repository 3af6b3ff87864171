use Rattle.std.proofs.Common.{◌≡◌, All, take}
use Rattle.kom_state.proofs.ItemRooms.{IsItemReservedFor}
use Rattle.kom_state.proofs.reserving.items.reserve_items.Given as goal

abbrev pub invariant-loop-effect : goal.invariant-loop-effect
invariant-loop-effect l = record {
  rows : l.items.rows ≡ l.fn.items.rows;
  each : All (IsItemReservedFor l.items l.count) (take l.effect-index l.effects);
}
