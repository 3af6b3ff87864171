use Rattle.std.proofs.Common.{◌∙◌}
use Rattle.sessions.proofs.Numbered.{got}
use Rattle.sessions.proofs.table.Sessions.get.Goals as goal

pub returns-in-None : goal.returns-in-None
returns-in-None c =
    rw (← c.self.view_is) (c.get.ensures.value ∙ got c.self.inside.rows c.self.invariant.2 c.args.session)
