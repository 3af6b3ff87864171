use Rattle.kom_session.specs.Known.{sight}
use Rattle.kom_session.proofs.serving.ask.Goals as goal

pub returns-clause-goes : goal.returns-clause-goes
returns-clause-goes g c = λ link gave.
    c.asked.ensures (sight (g.K.Desk.view c.args.desk.now) link gave)
    (g.K.Desk.view c.stopped-answer.new.self) c.stopped-answer.ensures.asks
