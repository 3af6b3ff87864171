use Rattle.kom_hub.proofs.Ending.{all_given_back, served_crowd}
use Rattle.kom_hub.proofs.Serving.{new_serves}
use Rattle.kom_hub.proofs.hub.Hub.serve.Goals as goal

pub loop-init : goal.loop-init
loop-init g c = record {
  serves = new_serves g.T.Converse.kept g.T.Converse.talks g.L.Link.view g.met.T.Converse.kept_on
      g.met.T.Converse.talks_on c.args.self.now
      (g.K.Desk.view c.args.desk.now) (g.C.Clock.gave c.args.clock.now) (g.G.Gate.view c.args.gate.now)
      c.requires.empty c.requires.new c.requires.gate;
  on = g.met.K.Desk.goes_on_itself _;
}

pub ask-requires : goal.ask-requires
ask-requires g c = record {
  can = (
    g.C.Clock.gave c.loop.clock,
    (g.C.Clock.gave c.args.clock.now, c.loop.invariant.serves),
  );
}

pub returns-in-Some-ask-clause-back : goal.returns-in-Some-ask-clause-back
returns-in-Some-ask-clause-back g c =
    all_given_back g.T.Converse.kept g.T.Converse.talks g.L.Link.view (g.C.Clock.gave c.args.clock.now)
    (g.K.Desk.view c.ask.new.desk) (g.C.Clock.gave c.loop.clock) c.ask.new.self.guests (g.G.Gate.view c.ask.new.gate)
    c.in-Some-ask.ensures.nobody
    (c.ask.ensures.goes (g.C.Clock.gave c.loop.clock) (g.C.Clock.gave c.args.clock.now) c.loop.invariant.serves).stands

pub returns-in-Some-ask-clause-served : goal.returns-in-Some-ask-clause-served
returns-in-Some-ask-clause-served g c =
    served_crowd g.T.Converse.kept g.T.Converse.talks g.L.Link.view (g.C.Clock.gave c.args.clock.now)
    (g.K.Desk.view c.ask.new.desk) (g.C.Clock.gave c.loop.clock) c.ask.new.self.guests (g.G.Gate.view c.ask.new.gate)
    c.in-Some-ask.ensures.nobody
    (c.ask.ensures.goes (g.C.Clock.gave c.loop.clock) (g.C.Clock.gave c.args.clock.now) c.loop.invariant.serves).stands

pub round-requires : goal.round-requires
round-requires g c = record {
  can = (
    g.C.Clock.gave c.args.clock.now,
    c.ask.ensures.goes (g.C.Clock.gave c.loop.clock) (g.C.Clock.gave c.args.clock.now) c.loop.invariant.serves,
  );
}

pub loop-preserved : goal.loop-preserved
loop-preserved g c = record {
  serves = c.round.ensures.goes (g.C.Clock.gave c.args.clock.now)
      (c.ask.ensures.goes (g.C.Clock.gave c.loop.clock) (g.C.Clock.gave c.args.clock.now) c.loop.invariant.serves);
  on = g.met.K.Desk.goes_on_further _ _ _ c.loop.invariant.on
      (g.met.K.Desk.goes_on_further _ _ _ c.ask.ensures.on c.round.ensures.on);
}
