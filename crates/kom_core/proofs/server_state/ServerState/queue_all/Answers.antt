use Rattle.kom_types.specs.Sessions.{waiting_limits}
use Rattle.kom_core.proofs.Rows.{queue_all-push}
use Rattle.kom_core.proofs.server_state.ServerState.queue_all.Goals as goal

pub loop-delivery-preserved : goal.loop-delivery-preserved
loop-delivery-preserved c =
    rw (
      queue_all-push waiting_limits c.loop-delivery.yielded c.in-Some.delivery c.args.self.now,
      ← c.loop-delivery.invariant,
      ← c.delivery.view_is,
    )
    c.queue.ensures
