use Rattle.std.proofs.Common.{◌≡◌}
use Rattle.kom_hub.specs.Crowds.{CarriesTo}
use Rattle.kom_hub.proofs.rounds.go_on_some.Given as goal

-- whoever left, the crowd is one still
abbrev pub invariant-loop-place : goal.invariant-loop-place
invariant-loop-place g l = record {
  stands : CarriesTo g.T.Converse.kept g.T.Converse.talks g.G.Link.Link.view (g.K.Desk.view l.fn.desk)
      (g.C.Clock.gave l.fn.clock) l.fn.crowd (g.G.Gate.view l.fn.gate) (g.K.Desk.view l.desk)
      (g.C.Clock.gave l.clock) l.crowd (g.G.Gate.view l.gate);
  ended : (g.G.Gate.view l.gate).ended ≡ (g.G.Gate.view l.fn.gate).ended;
  on : g.K.Desk.goes_on l.fn.desk l.desk;
}
