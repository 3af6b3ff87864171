use Rattle.kom_hub.proofs.Standing.{flush_quiets, half_begins}
use Rattle.kom_hub.proofs.crowd.flush_for.Goals as goal

pub returns-clause-stands : goal.returns-clause-stands
returns-clause-stands g c = λ begun gate stands.
    (c.tell_some.ensures begun (g.K.Desk.view c.args.desk.now) (g.K.Desk.view c.flush-answer.new.self)
    (g.C.Clock.gave c.now.new.self) gate (c.now.result, c.flush-answer.ensures.flushes)
    (half_begins g.T.Converse.kept g.T.Converse.talks g.L.Link.view g.met.T.Converse.kept_on
    g.met.T.Converse.talks_on begun c.args.number _ _ _ _ c.args.crowd.now gate
    (flush_quiets _ _ _ _ c.now.result c.flush-answer.result c.flush-answer.ensures.flushes c.now.ensures.gains)
    stands)).0
