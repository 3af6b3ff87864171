use Rattle.kom_session.specs.Known.{known_by}
use Rattle.kom_session.proofs.Passing.{kept_passes}
use Rattle.kom_session.proofs.machine.Machine.passed.Goals as goal

pub returns : goal.returns
returns c = λ start now desk gave. kept_passes start (known_by c.args.self.now) now desk gave
