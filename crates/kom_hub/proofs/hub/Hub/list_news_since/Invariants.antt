use Rattle.std.proofs.Common.{ℕ, List, Option}
use Rattle.kom_links.specs.Doors.{GateView}
use Rattle.kom_hub.specs.Hub.{Goes}
use Rattle.kom_hub.proofs.hub.Hub.list_news_since.Given as goal

-- whoever was listed, it serves a crowd
abbrev pub invariant-loop : goal.invariant-loop
invariant-loop g l = record {
  goes : (gave : Option (List ℕ)) (gate : GateView g.row.L.Denot) → Goes g.T.Converse.kept
      g.T.Converse.talks g.L.Link.view l.fn.self (g.K.Desk.view l.fn.desk) gave gate l.self
      (g.K.Desk.view l.desk) gave gate;
  on : g.K.Desk.goes_on l.fn.desk l.desk;
}
