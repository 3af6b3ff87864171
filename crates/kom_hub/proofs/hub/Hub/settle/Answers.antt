use Rattle.kom_hub.proofs.Serving.{left_serves}
use Rattle.kom_hub.proofs.hub.Hub.settle.Goals as goal

pub turn-requires : goal.turn-requires
turn-requires g c = record {
  can = (
    g.G.Gate.view c.ring_if.new.gate,
    (
      c.requires.can.0,
      left_serves g.T.Converse.kept g.T.Converse.talks g.L.Link.view g.met.T.Converse.kept_on
          g.met.T.Converse.talks_on c.requires.can.0 c.flush.new.self
          (g.K.Desk.view c.flush.new.desk) (g.C.Clock.gave c.flush.new.clock) (g.G.Gate.view c.args.gate.now)
          (g.G.Gate.view c.ring_if.new.gate) c.ring_if.ensures
          (c.flush.ensures.goes (g.G.Gate.view c.args.gate.now) c.requires.can.0
          (c.list_news-has_news.ensures.goes (g.C.Clock.gave c.args.clock.now) (g.G.Gate.view c.args.gate.now)
          c.requires.can.0 c.requires.can.1)),
    ),
  );
}

pub returns-clause-goes : goal.returns-clause-goes
returns-clause-goes g c = λ begun serves.
    c.turn.ensures.goes (g.G.Gate.view c.ring_if.new.gate) begun
    (left_serves g.T.Converse.kept g.T.Converse.talks g.L.Link.view g.met.T.Converse.kept_on
    g.met.T.Converse.talks_on begun c.flush.new.self
    (g.K.Desk.view c.flush.new.desk) (g.C.Clock.gave c.flush.new.clock) (g.G.Gate.view c.args.gate.now)
    (g.G.Gate.view c.ring_if.new.gate) c.ring_if.ensures
    (c.flush.ensures.goes (g.G.Gate.view c.args.gate.now) begun
    (c.list_news-has_news.ensures.goes (g.C.Clock.gave c.args.clock.now) (g.G.Gate.view c.args.gate.now)
    begun serves)))

pub returns-clause-on : goal.returns-clause-on
returns-clause-on g c =
    g.met.K.Desk.goes_on_further _ _ _ c.list_news-has_news.ensures.on
    (g.met.K.Desk.goes_on_further _ _ _ c.flush.ensures.on c.turn.ensures.on)

pub returns-then-not-has_news-clause-goes : goal.returns-then-not-has_news-clause-goes
returns-then-not-has_news-clause-goes g c = λ begun serves.
    c.list_news-has_news.ensures.goes (g.C.Clock.gave c.args.clock.now) (g.G.Gate.view c.args.gate.now) begun serves
