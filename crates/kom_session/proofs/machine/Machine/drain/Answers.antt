use Rattle.kom_session.specs.Known.{sight}
use Rattle.kom_session.proofs.Going.{goes_trans}
use Rattle.kom_session.proofs.machine.Machine.drain.Goals as goal

pub returns-clause-made : goal.returns-clause-made
returns-clause-made g c = λ host link here. goes_trans
    (c.take_items.ensures.made host link here)
    (c.rest.ensures
    (sight (g.K.Desk.view c.take_items.new.desk) link (g.C.Clock.gave c.take_items.new.clock)))
