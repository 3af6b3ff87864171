use Rattle.kom_core.proofs.Rows.{stop_made}
use Rattle.kom_core.proofs.server_state.ServerState.stop.Goals as goal

pub returns : goal.returns
returns c = λ moment. rw (c.requires, ← c.self.view_is) (stop_made moment _)
