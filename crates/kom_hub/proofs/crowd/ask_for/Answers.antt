use Rattle.kom_hub.proofs.Standing.{ask_quiets, stands_quiet, half_begins}
use Rattle.kom_hub.proofs.crowd.ask_for.Goals as goal

pub returns-then-eq-clause-stands : goal.returns-then-eq-clause-stands
returns-then-eq-clause-stands g c = λ gave begun gate stands.
    stands_quiet g.T.Converse.kept g.T.Converse.talks g.L.Link.view g.met.T.Converse.kept_on
    g.met.T.Converse.talks_on begun _ _ gave gave c.args.crowd.now gate
    (ask_quiets _ _ gave c.stopped-answer.result c.stopped-answer.ensures.asks) stands

pub returns-clause-stands : goal.returns-clause-stands
returns-clause-stands g c = λ gave begun gate stands.
    (c.tell_all.ensures begun (g.K.Desk.view c.args.desk.now) (g.K.Desk.view c.stopped-answer.new.self) gave gate
    c.stopped-answer.ensures.asks
    (half_begins g.T.Converse.kept g.T.Converse.talks g.L.Link.view g.met.T.Converse.kept_on
    g.met.T.Converse.talks_on begun c.args.number _ _ gave gave c.args.crowd.now gate
    (ask_quiets _ _ gave c.stopped-answer.result c.stopped-answer.ensures.asks) stands)).0
