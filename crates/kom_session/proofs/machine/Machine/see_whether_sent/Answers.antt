use Rattle.std.proofs.Common.{rules}
use Rattle.kom_session.specs.Known.{known_by}
use Rattle.kom_session.proofs.Stills.{still_same, last_over}
use Rattle.kom_session.proofs.machine.Machine.see_whether_sent.Goals as goal

pub returns-then-is_at_rest : goal.returns-then-is_at_rest
returns-then-is_at_rest c = last_over (known_by c.args.self.now) c.in-Last.end c.in-Last.is
    (c.has_pending.ensures.none (search rules)) (c.is_at_rest.ensures (search rules))

pub returns-else-not-has_pending : goal.returns-else-not-has_pending
returns-else-not-has_pending c = still_same (known_by c.args.self.now)

pub returns-in_default : goal.returns-in_default
returns-in_default c = still_same (known_by c.args.self.now)
