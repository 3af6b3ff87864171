use Rattle.kom_hub.proofs.hub.Hub.round.Goals as goal

pub let_some_in-requires : goal.let_some_in-requires
let_some_in-requires g c = record {
  can = (
    g.K.Desk.view c.args.desk.now,
    g.C.Clock.gave c.args.clock.now,
    (
      c.requires.can.0,
      c.wait.ensures (g.K.Desk.view c.args.desk.now) (g.C.Clock.gave c.args.clock.now) c.requires.can.0
          c.requires.can.1,
    ),
  );
}

pub take_turns-requires : goal.take_turns-requires
take_turns-requires g c = record {
  can = (
    c.requires.can.0,
    c.let_some_in.ensures (g.K.Desk.view c.args.desk.now) (g.C.Clock.gave c.args.clock.now) c.requires.can.0
        (c.wait.ensures (g.K.Desk.view c.args.desk.now) (g.C.Clock.gave c.args.clock.now) c.requires.can.0
        c.requires.can.1),
  );
}

pub returns-clause-goes : goal.returns-clause-goes
returns-clause-goes g c = λ begun serves.
    c.take_turns.ensures.goes begun
    (c.let_some_in.ensures (g.K.Desk.view c.args.desk.now) (g.C.Clock.gave c.args.clock.now) begun
    (c.wait.ensures (g.K.Desk.view c.args.desk.now) (g.C.Clock.gave c.args.clock.now) begun serves))
