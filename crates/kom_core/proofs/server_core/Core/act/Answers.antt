use Rattle.kom_core.proofs.server_core.Core.act.Goals as goal

pub returns-clause-answered : goal.returns-clause-answered
returns-clause-answered c =
    let answered = c.act_kept.ensures.answered in (answered.0, answered.1, answered.2, answered.3)
