use Rattle.kom_hub.proofs.hub.Hub.take_turns.Goals as goal

pub collect-requires : goal.collect-requires
collect-requires g c = record { can = (g.G.Gate.view c.args.gate.now, c.requires.can) }

pub settle-requires : goal.settle-requires
settle-requires g c = record {
  can = (
    c.requires.can.0,
    c.collect.ensures.goes (g.G.Gate.view c.args.gate.now) c.requires.can.0 c.requires.can.1,
  );
}

pub act_more-requires : goal.act_more-requires
act_more-requires g c = record {
  can = (
    c.requires.can.0,
    c.settle.ensures.goes c.requires.can.0
        (c.collect.ensures.goes (g.G.Gate.view c.args.gate.now) c.requires.can.0 c.requires.can.1),
  );
}

pub turn-requires : goal.turn-requires
turn-requires g c = record {
  can = (
    g.G.Gate.view c.act_more.new.gate,
    (
      c.requires.can.0,
      c.act_more.ensures.goes c.requires.can.0 (c.settle.ensures.goes c.requires.can.0
          (c.collect.ensures.goes (g.G.Gate.view c.args.gate.now) c.requires.can.0 c.requires.can.1)),
    ),
  );
}

pub go_on-requires : goal.go_on-requires
go_on-requires g c = record {
  can = (
    c.requires.can.0,
    c.turn.ensures.goes (g.G.Gate.view c.act_more.new.gate) c.requires.can.0
        (c.act_more.ensures.goes c.requires.can.0 (c.settle.ensures.goes c.requires.can.0
        (c.collect.ensures.goes (g.G.Gate.view c.args.gate.now) c.requires.can.0 c.requires.can.1))),
  );
}

pub returns-clause-goes : goal.returns-clause-goes
returns-clause-goes g c = λ begun serves.
    c.go_on.ensures.goes begun (c.turn.ensures.goes (g.G.Gate.view c.act_more.new.gate) begun
    (c.act_more.ensures.goes begun (c.settle.ensures.goes begun
    (c.collect.ensures.goes (g.G.Gate.view c.args.gate.now) begun serves))))

pub returns-clause-on : goal.returns-clause-on
returns-clause-on g c =
    g.met.K.Desk.goes_on_further _ _ _ c.collect.ensures.on
    (g.met.K.Desk.goes_on_further _ _ _ c.settle.ensures.on
    (g.met.K.Desk.goes_on_further _ _ _ c.act_more.ensures.on
    (g.met.K.Desk.goes_on_further _ _ _ c.turn.ensures.on c.go_on.ensures.on)))
