use Rattle.std.proofs.Common.{sym, ◌∙◌}
use Rattle.kom_core.proofs.Rows.{gone-copied, change_absent}
use Rattle.kom_core.proofs.server_state.ServerState.change_session.Goals as goal

pub returns-else-is_some : goal.returns-else-is_some
returns-else-is_some c =
    rw (← c.self.view_is)
    (change_absent c.args.moment c.args.session c.args.change _ c.requires
    (gone-copied c.get.result _ c.get.ensures (sym c.is_some.ensures ∙ c.if-is_some.false)))
