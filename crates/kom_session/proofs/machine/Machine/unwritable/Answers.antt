use Rattle.kom_session.specs.Known.{known_by, to_write}
use Rattle.kom_session.proofs.Writing.{unwritten_over}
use Rattle.kom_session.proofs.machine.Machine.unwritable.Goals as goal

pub returns : goal.returns
returns c = unwritten_over (known_by c.args.self.now) (to_write c.args.self.now)
