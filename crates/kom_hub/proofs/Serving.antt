-- What leaves a hub as it was.
use Rattle.std.proofs.Common.{◌≡◌, ℕ, List, [], Option, ◌∙◌, true, false, sym}
use Rattle.kom_links.specs.declared.served.Served.{Served}
use Rattle.kom_links.specs.DeskCalls.{DeskView, IsLookedAt}
use Rattle.kom_links.specs.Doors.{GateView, IsLeft, IsNewGate}
use Rattle.kom_links.specs.Outside.{LinkView}
use Rattle.kom_hub.specs.declared.hub.Hub.{Hub}
use Rattle.kom_hub.specs.Passing.{Passes}
use Rattle.kom_hub.specs.Hub.{IsEmptyHub, IsServing}
use Rattle.kom_hub.proofs.Standing.{look_quiets, left_gave_none, stands_gate, stands_quiet, stands_new}

module _ {T L : Type 0} (kept : T → DeskView → LinkView → Type 0) (talks : DeskView → LinkView → Served → Type 0)
    (view : L → LinkView)
    (kept_on : (talk : T) (old new : DeskView) (link : LinkView) → Passes old new → kept talk old link
    → kept talk new link)
    (talks_on : (old new : DeskView) (link : LinkView) (served : Served) → Passes old new → talks old link served
    → talks new link served) where
  -- the gate was left
  pub left_serves : (begun : Option (List ℕ)) (hub : Hub T L) (desk : DeskView) (gave : Option (List ℕ))
      (gate gate' : GateView L) → IsLeft gate gate' → IsServing kept talks view begun hub desk gave gate
      → IsServing kept talks view begun hub desk gave gate'
  left_serves begun hub desk gave gate gate' left serves = record {
    room = serves.room;
    ended = λ ended. left.ended ∙ serves.ended ended;
    stands = stands_gate kept talks view kept_on talks_on begun desk gave hub.guests gate gate'
        (left_gave_none gate gate' left) serves.stands;
  }

  -- the desk was looked at
  pub looked_serves : (begun : Option (List ℕ)) (hub : Hub T L) (before after : DeskView) (gave : Option (List ℕ))
      (gate : GateView L) → IsLookedAt before after → IsServing kept talks view begun hub before gave gate
      → IsServing kept talks view begun hub after gave gate
  looked_serves begun hub before after gave gate looked serves = record {
    room = serves.room;
    ended = serves.ended;
    stands = stands_quiet kept talks view kept_on talks_on begun before after gave gave hub.guests gate
        (look_quiets before after gave looked) serves.stands;
  }

  -- nobody is in
  pub new_serves : (hub : Hub T L) (desk : DeskView) (gave : Option (List ℕ)) (gate : GateView L)
      → IsEmptyHub hub → desk.mine ≡ [] → IsNewGate gate → IsServing kept talks view gave hub desk gave gate
  new_serves hub desk gave gate empty none new = record {
    room = empty.room;
    ended = λ ended. let t : true ≡ false = sym ended ∙ empty.not_ended in cc;
    stands = stands_new kept talks view kept_on talks_on desk gave hub.guests gate empty.nobody empty.seats none new;
  }
