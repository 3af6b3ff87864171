use Rattle.std.proofs.Common.{◌≡◌, length, arith}
use Rattle.kom_types.specs.Printing.{print_of}
use Rattle.sessions.proofs.Counting.{IsOutbox-push}
use Rattle.sessions.proofs.outbox.Outbox.queue.Goals as goal

pub invariant_of-self : goal.invariant_of-self
invariant_of-self c =
    let whole : c.args.len ≡ length (print_of c.args.item) = omega arith in
    rw (c.push_back_reserved.ensures.items, c.push_back_reserved.ensures.capacity)
    (IsOutbox-push c.self.inside.ring.items _ c.self.inside.printed c.args.len c.new.result c.self.invariant
    (rw c.new.ensures whole) c.if-len-self.false)
