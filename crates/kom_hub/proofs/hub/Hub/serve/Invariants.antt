use Rattle.kom_hub.specs.Hub.{IsServing}
use Rattle.kom_hub.proofs.hub.Hub.serve.Given as goal

-- it serves a crowd since the call began
abbrev pub invariant-loop : goal.invariant-loop
invariant-loop g l = record {
  serves : IsServing g.T.Converse.kept g.T.Converse.talks g.L.Link.view (g.C.Clock.gave l.fn.clock) l.self
      (g.K.Desk.view l.desk) (g.C.Clock.gave l.clock) (g.G.Gate.view l.gate);
  on : g.K.Desk.goes_on l.fn.desk l.desk;
}
