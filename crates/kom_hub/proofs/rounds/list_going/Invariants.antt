use Rattle.std.proofs.Common.{ℕ, List, Option}
use Rattle.kom_links.specs.DeskCalls.{DeskView}
use Rattle.kom_hub.specs.Crowds.{Carries}
use Rattle.kom_hub.proofs.rounds.list_going.Given as goal

-- the crowd is one still
abbrev pub invariant-loop-key : goal.invariant-loop-key
invariant-loop-key g l = (desk : DeskView) (gave : Option (List ℕ))
    → Carries g.T.Converse.kept g.T.Converse.talks g.L.Link.view desk gave l.fn.crowd desk gave l.crowd
