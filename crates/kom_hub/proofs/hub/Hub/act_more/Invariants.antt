use Rattle.kom_hub.specs.Hub.{Goes}
use Rattle.kom_hub.proofs.hub.Hub.act_more.Given as goal

-- whatever was done, it serves a crowd
abbrev pub invariant-loop : goal.invariant-loop
invariant-loop g l = record {
  goes : Goes g.T.Converse.kept g.T.Converse.talks g.L.Link.view l.fn.self (g.K.Desk.view l.fn.desk)
      (g.C.Clock.gave l.fn.clock) (g.G.Gate.view l.fn.gate) l.self (g.K.Desk.view l.desk) (g.C.Clock.gave l.clock)
      (g.G.Gate.view l.gate);
  on : g.K.Desk.goes_on l.fn.desk l.desk;
}
