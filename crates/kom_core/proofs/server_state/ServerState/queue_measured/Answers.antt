use Rattle.std.proofs.Common.{sym, ◌∙◌}
use Rattle.kom_core.proofs.Rows.{gone-copied, absent_stays}
use Rattle.kom_core.proofs.server_state.ServerState.queue_measured.Goals as goal

pub returns-else-is_some : goal.returns-else-is_some
returns-else-is_some c =
    rw (← c.self.view_is)
    (absent_stays _ _ _ (gone-copied c.get.result _ c.get.ensures (sym c.is_some.ensures ∙ c.if-is_some.false)))
