use Rattle.std.proofs.Common.{◌≡◌, take}
use Rattle.kom_state.specs.Room.{all_needs}
use Rattle.kom_state.proofs.reserving.all_needs.Given as goal

abbrev pub invariant-loop-effect : goal.invariant-loop-effect
invariant-loop-effect l = l.needs.items ≡ all_needs (take l.effect-index l.effects)
