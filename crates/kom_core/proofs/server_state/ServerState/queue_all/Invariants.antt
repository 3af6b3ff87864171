use Rattle.std.proofs.Common.{◌≡◌}
use Rattle.kom_types.specs.Sessions.{waiting_limits}
use Rattle.kom_model.specs.After.{queue_all}
use Rattle.kom_core.proofs.server_state.ServerState.queue_all.Given as goal

abbrev pub invariant-loop-delivery : goal.invariant-loop-delivery
invariant-loop-delivery l = l.self ≡ queue_all waiting_limits l.yielded l.initial.self
