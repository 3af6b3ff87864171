use Rattle.std.proofs.Common.{◌≡◌, All, take}
use Rattle.kom_state.proofs.Rooms.{IsReservedFor}
use Rattle.kom_state.proofs.reserving.reserve_memberships.Given as goal

abbrev pub invariant-loop-effect : goal.invariant-loop-effect
invariant-loop-effect l = record {
  rows : l.memberships.rows ≡ l.fn.memberships.rows;
  reads : l.memberships.reads ≡ l.fn.memberships.reads;
  each : All (IsReservedFor l.memberships l.count) (take l.effect-index l.effects);
}
