use Rattle.kom_hub.specs.Hub.{GoesAlone}
use Rattle.kom_hub.proofs.hub.Hub.list_ready.Given as goal

-- whoever was listed, it serves a crowd
abbrev pub invariant-loop-count : goal.invariant-loop-count
invariant-loop-count g l =
    GoesAlone g.T.Converse.kept g.T.Converse.talks g.L.Link.view l.fn.self (g.G.Gate.view l.fn.gate) l.self
    (g.G.Gate.view l.gate)
