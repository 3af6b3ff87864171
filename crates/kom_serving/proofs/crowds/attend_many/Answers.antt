use Rattle.kom_serving.proofs.Links.{first_more}
use Rattle.kom_serving.proofs.CrowdEnds.{is_done}
use Rattle.kom_serving.proofs.ServedCrowds.{serves_crowd}
use Rattle.kom_serving.proofs.crowds.attend_many.Goals as goal

pub returns-clause-serves : goal.returns-clause-serves
returns-clause-serves g c =
    serves_crowd g.G.Link.Link.view c.serve.new.desk (g.C.Clock.gave c.args.clock.now)
    (g.C.Clock.gave c.serve.new.clock) (g.G.Gate.view c.serve.new.gate).returned c.assured.ensures.stands
    c.serve.ensures.served

pub returns-clause-first : goal.returns-clause-first
returns-clause-first g c =
    first_more (g.C.Clock.gave c.args.clock.now) (g.C.Clock.gave c.serve.new.clock) _ c.serve.ensures.served.timed

pub returns-clause-done : goal.returns-clause-done
returns-clause-done g c =
    is_done c.serve.new.desk (g.G.Gate.view c.serve.new.gate) c.serve.result c.assured.ensures.stands
    c.serve.ensures.why
