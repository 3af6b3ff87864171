use Rattle.std.proofs.Common.{◌-◌, length}
use Rattle.sessions.proofs.Taking.{Taken}
use Rattle.sessions.proofs.outbox.Outbox.drain_into.Given as goal

abbrev pub invariant-loop-self : goal.invariant-loop-self
invariant-loop-self l = Taken l.below l.initial.self l.self l.into.items

abbrev pub decreases-loop-self : goal.decreases-loop-self
decreases-loop-self l = 64 - length l.into.items
