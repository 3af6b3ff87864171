-- Why a pass serves many links no more.
use Rattle.std.proofs.Common.{inl, inr}
use Rattle.kom_links.specs.Doors.{GateView}
use Rattle.kom_hub.specs.declared.hub.HubEnd.{HubEnd}
use Rattle.kom_hub.specs.declared.hub.HubEnd.TheVariants as end
use Rattle.kom_hub.specs.Hub.{IsWhy}
use Rattle.hall_desk.specs.Desks.{Kept, desk_view, Stands}
use Rattle.kom_serving.specs.Runs.{IsDone}
use Rattle.kom_serving.proofs.HeardAnswers.{stopped_known}

pub is_done : {L : Type 0} (kept : Kept) (gate : GateView L) (ending : HubEnd) → Stands kept →
    IsWhy ending (desk_view kept) gate → IsDone kept.start kept.pass.seen gate
is_done kept gate end.Ended stands is = inr (inl is)
is_done kept gate end.Stopped stands is = inr (inr (stopped_known kept stands.known is))
is_done kept gate end.GateFault stands is = inl is
