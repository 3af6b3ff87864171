use Rattle.std.proofs.Common.{rules}
use Rattle.kom_session.specs.Known.{known_by}
use Rattle.kom_session.proofs.Reading.{waited_due, waited_silent}
use Rattle.kom_session.proofs.machine.Machine.waited.Goals as goal

pub returns-then-self-ne0-clause-reads : goal.returns-then-self-ne0-clause-reads
returns-then-self-ne0-clause-reads c = waited_due (known_by c.args.self.now) c.requires c.if-self-ne0.true

pub returns-else-self-ne0-clause-reads : goal.returns-else-self-ne0-clause-reads
returns-else-self-ne0-clause-reads c = waited_silent (known_by c.args.self.now) c.requires (search rules)
