use Rattle.kom_serving.proofs.Lifting.{serves_on}
use Rattle.kom_serving.proofs.workers.is_stopped.Goals as goal

pub returns-in-Ok-clause-serves : goal.returns-in-Ok-clause-serves
returns-in-Ok-clause-serves g c returned gave serves =
    serves_on g.G.Link.Link.view c.args.desk.now c.stopped-answer.new.self returned gave c.stopped-answer.ensures.on
    c.stopped-answer.ensures.asks.mine c.assured.ensures.stands serves

pub returns-in-Err-clause-serves : goal.returns-in-Err-clause-serves
returns-in-Err-clause-serves g c returned gave serves =
    serves_on g.G.Link.Link.view c.args.desk.now c.stopped-answer.new.self returned gave c.stopped-answer.ensures.on
    c.stopped-answer.ensures.asks.mine c.assured.ensures.stands serves
