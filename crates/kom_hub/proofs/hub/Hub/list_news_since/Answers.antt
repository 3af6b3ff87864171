use Rattle.kom_hub.proofs.Serving.{looked_serves}
use Rattle.kom_hub.proofs.hub.Hub.list_news_since.Goals as goal

pub loop-init : goal.loop-init
loop-init g c = record {
  goes = λ gave gate begun serves. serves;
  on = g.met.K.Desk.goes_on_itself _;
}

pub returns-in_default-clause-goes : goal.returns-in_default-clause-goes
returns-in_default-clause-goes g c = λ gave gate begun serves.
    looked_serves g.T.Converse.kept g.T.Converse.talks g.L.Link.view g.met.T.Converse.kept_on
    g.met.T.Converse.talks_on begun c.loop.self (g.K.Desk.view c.loop.desk)
    (g.K.Desk.view c.next_news.new.self) gave gate c.next_news.ensures.looked
    (c.loop.invariant.goes gave gate begun serves)

pub returns-in_default-clause-on : goal.returns-in_default-clause-on
returns-in_default-clause-on g c =
    g.met.K.Desk.goes_on_further _ _ _ c.loop.invariant.on c.next_news.ensures.on

pub loop-preserved : goal.loop-preserved
loop-preserved g c = record {
  goes = λ gave gate begun serves. c.list_session.ensures gate (g.K.Desk.view c.next_news.new.self) gave begun
      (looked_serves g.T.Converse.kept g.T.Converse.talks g.L.Link.view g.met.T.Converse.kept_on
      g.met.T.Converse.talks_on begun c.loop.self (g.K.Desk.view c.loop.desk)
      (g.K.Desk.view c.next_news.new.self) gave gate c.next_news.ensures.looked
      (c.loop.invariant.goes gave gate begun serves));
  on = g.met.K.Desk.goes_on_further _ _ _ c.loop.invariant.on c.next_news.ensures.on;
}
