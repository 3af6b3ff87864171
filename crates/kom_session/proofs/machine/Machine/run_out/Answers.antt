use Rattle.kom_session.specs.Known.{known_by}
use Rattle.kom_session.proofs.Stills.{still_same}
use Rattle.kom_session.proofs.machine.Machine.run_out.Goals as goal

pub returns-in-Over : goal.returns-in-Over
returns-in-Over c = still_same (known_by c.args.self.now)
