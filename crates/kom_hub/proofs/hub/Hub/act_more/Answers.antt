use Rattle.kom_hub.proofs.hub.Hub.act_more.Goals as goal

pub loop-init : goal.loop-init
loop-init g c = record {
  goes = λ begun serves. serves;
  on = g.met.K.Desk.goes_on_itself _;
}

pub turn-requires : goal.turn-requires
turn-requires g c = record {
  can = (
    g.G.Gate.view c.loop.gate,
    (c.requires.can.0, c.loop.invariant.goes c.requires.can.0 c.requires.can.1),
  );
}

pub settle-requires : goal.settle-requires
settle-requires g c = record {
  can = (
    c.requires.can.0,
    c.turn.ensures.goes (g.G.Gate.view c.loop.gate) c.requires.can.0
        (c.loop.invariant.goes c.requires.can.0 c.requires.can.1),
  );
}

pub loop-preserved : goal.loop-preserved
loop-preserved g c = record {
  goes = λ begun serves. c.settle.ensures.goes begun
      (c.turn.ensures.goes (g.G.Gate.view c.loop.gate) begun (c.loop.invariant.goes begun serves));
  on = g.met.K.Desk.goes_on_further _ _ _ c.loop.invariant.on
      (g.met.K.Desk.goes_on_further _ _ _ c.turn.ensures.on c.settle.ensures.on);
}

pub returns-then-not-owe_flush-clause-goes : goal.returns-then-not-owe_flush-clause-goes
returns-then-not-owe_flush-clause-goes g c = λ begun serves.
    c.turn.ensures.goes (g.G.Gate.view c.loop.gate) begun (c.loop.invariant.goes begun serves)
