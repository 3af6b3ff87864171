use Rattle.std.proofs.Common.{◌≡◌, ◌≤◌, All, take}
use Rattle.texts.specs.Needs.{room_for, count_of}
use Rattle.kom_state.proofs.reserving.needs.reserve_many.Given as goal

abbrev pub invariant-loop-need : goal.invariant-loop-need
invariant-loop-need l = record {
  rows : l.texts.rows ≡ l.fn.texts.rows;
  each : All (λ need. count_of need l.needs ≤ room_for l.texts.room need) (take l.need-index l.needs);
}
