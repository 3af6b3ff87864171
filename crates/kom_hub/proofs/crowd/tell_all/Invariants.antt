use Rattle.std.proofs.Common.{ℕ, List, Option}
use Rattle.kom_links.specs.Doors.{GateView}
use Rattle.kom_links.specs.DeskCalls.{DeskView}
use Rattle.kom_hub.specs.Crowds.{HearsNews, HalfStands}
use Rattle.kom_hub.proofs.crowd.tell_all.Given as goal

-- whoever was told, it is half told
abbrev pub invariant-loop-key : goal.invariant-loop-key
invariant-loop-key g l = (begun : Option (List ℕ)) (before after : DeskView) (gave : Option (List ℕ))
    (gate : GateView g.row.L.Denot) → HearsNews l.news before after
    → HalfStands g.T.Converse.kept g.T.Converse.talks g.L.Link.view begun l.number before after gave l.fn.crowd gate
    → HalfStands g.T.Converse.kept g.T.Converse.talks g.L.Link.view begun l.number before after gave l.crowd gate
