use Rattle.kom_core.proofs.Rows.{make_changes-push}
use Rattle.kom_core.proofs.server_state.ServerState.make_changes.Goals as goal

pub loop-change-preserved : goal.loop-change-preserved
loop-change-preserved c =
    rw (
      make_changes-push c.args.moment c.loop-change.yielded c.in-Some.change c.args.self.now,
      ← c.loop-change.invariant,
    )
    c.make_change.ensures
