use Rattle.kom_core.proofs.Making.{refused-sound}
use Rattle.kom_core.proofs.server_core.Core.refuse_flush.Goals as goal

pub invariant_of-self : goal.invariant_of-self
invariant_of-self c =
    refused-sound c.self.inside.server c.refuse_flush.new.self c.args.entry.now c.refuse_flush.result c.requires.flush
    c.refuse_flush.ensures.made c.self.invariant c.refuse_flush.ensures.state

pub returns-clause-sound : goal.returns-clause-sound
returns-clause-sound c =
    refused-sound c.self.inside.server c.refuse_flush.new.self c.args.entry.now c.refuse_flush.result c.requires.flush
    c.refuse_flush.ensures.made c.self.invariant c.refuse_flush.ensures.state
