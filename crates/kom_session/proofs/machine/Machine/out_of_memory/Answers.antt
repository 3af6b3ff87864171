use Rattle.kom_session.specs.Known.{known_by}
use Rattle.kom_session.proofs.Stills.{memory_over}
use Rattle.kom_session.proofs.machine.Machine.out_of_memory.Goals as goal

pub returns-clause-still : goal.returns-clause-still
returns-clause-still c = memory_over (known_by c.args.self.now)
