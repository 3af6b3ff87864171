use Rattle.std.proofs.Common.{refl}
use Rattle.kom_sweep.proofs.Learning.{learns_text}
use Rattle.kom_sweep.proofs.names.Names.note_text.Goals as goal

pub returns : goal.returns
returns c = learns_text c.args.text c.args.self.now _ c.in_ok-insert.ensures.updates.0 refl refl
