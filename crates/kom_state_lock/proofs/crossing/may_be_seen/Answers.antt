use denote.Exit.{yes}
use denote.Param.{param}
use denote.Param.Send.{param_sync, arg_sync, view_sync}
use Rattle.kom_state_lock.proofs.Sharing.{pass_sync}
use Rattle.kom_state_lock.proofs.crossing.may_be_seen.Goals as goal

pub may_be_shared-requires-sync-T : goal.may_be_shared-requires-sync-T
may_be_shared-requires-sync-T g c κs within =
    param_sync _ _ (arg_sync _ yes _
    (view_sync _ _ _ _ _ (pass_sync (param 0 g.row.B) (param 1 g.row.B-Entry) g.B.Booked c.type_bounds.send-B)))
