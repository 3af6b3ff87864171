use Rattle.std.proofs.Common.{◌≡◌, length}
use Rattle.kom_sweep.specs.Told.{reply_in}
use Rattle.kom_sweep.proofs.talk.take_reply.Given as goal

-- what was taken out has no reply to the call
abbrev pub invariant-loop-item : goal.invariant-loop-item
invariant-loop-item l = reply_in l.reference l.items.items ≡ reply_in l.reference l.fn.items.items

abbrev pub decreases-loop-item : goal.decreases-loop-item
decreases-loop-item l = length l.items.items
