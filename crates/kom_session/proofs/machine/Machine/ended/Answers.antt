use Rattle.kom_session.specs.Known.{known_by}
use Rattle.kom_session.proofs.Reading.{ended_over}
use Rattle.kom_session.proofs.machine.Machine.ended.Goals as goal

pub returns : goal.returns
returns c = λ buffer. ended_over (known_by c.args.self.now) c.requires buffer
