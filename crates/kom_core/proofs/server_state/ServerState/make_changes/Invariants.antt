use Rattle.std.proofs.Common.{◌≡◌}
use Rattle.kom_model.specs.After.{make_changes}
use Rattle.kom_core.proofs.server_state.ServerState.make_changes.Given as goal

abbrev pub invariant-loop-change : goal.invariant-loop-change
invariant-loop-change l = l.self ≡ make_changes l.moment l.yielded l.initial.self
