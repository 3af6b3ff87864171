use Rattle.kom_session.specs.Known.{known_by}
use Rattle.kom_session.proofs.Reading.{unread_over}
use Rattle.kom_session.proofs.machine.Machine.unread.Goals as goal

pub returns : goal.returns
returns c = λ buffer. unread_over (known_by c.args.self.now) c.requires buffer
