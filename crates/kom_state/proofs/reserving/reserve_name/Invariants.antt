use Rattle.std.proofs.Common.{◌≡◌, [], take}
use Rattle.std.specs.List.{filter_map}
use Rattle.kom_state.specs.Room.{name_given}
use Rattle.kom_state.proofs.reserving.reserve_name.Given as goal

abbrev pub invariant-loop-effect : goal.invariant-loop-effect
invariant-loop-effect l = record {
  names : l.names ≡ l.fn.names;
  none_given : filter_map name_given (take l.effect-index l.effects) ≡ [];
}
