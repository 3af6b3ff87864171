use Rattle.kom_hub.specs.Hub.{GoesAlone}
use Rattle.kom_hub.proofs.hub.Hub.let_some_in.Given as goal

-- whoever was let in, it serves a crowd
abbrev pub invariant-loop : goal.invariant-loop
invariant-loop g l =
    GoesAlone g.T.Converse.kept g.T.Converse.talks g.L.Link.view l.fn.self (g.G.Gate.view l.fn.gate) l.self
    (g.G.Gate.view l.gate)
