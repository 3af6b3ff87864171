use Rattle.std.proofs.Common.{refl}
use Rattle.kom_sweep.proofs.Learning.{learns_days}
use Rattle.kom_sweep.proofs.names.Names.note_days.Goals as goal

pub returns : goal.returns
returns c =
    learns_days c.args.number c.args.days c.args.self.now _ c.in_ok-insert.ensures.updates.0 refl refl
