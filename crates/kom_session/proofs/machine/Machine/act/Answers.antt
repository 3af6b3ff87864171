use Rattle.kom_session.specs.Known.{sight}
use Rattle.kom_session.proofs.Going.{goes_trans}
use Rattle.kom_session.proofs.machine.Machine.act.Goals as goal

pub returns-clause-made : goal.returns-clause-made
returns-clause-made g c = λ link here. goes_trans
    (c.act_next.ensures.made link here)
    (c.rest.ensures
    (sight (g.K.Desk.view c.act_next.new.desk) link (g.C.Clock.gave c.act_next.new.clock)))
