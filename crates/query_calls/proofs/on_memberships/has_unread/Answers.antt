use Rattle.std.proofs.Common.{sym}
use Rattle.query_calls.proofs.Memberships.{unread_from_zero}
use Rattle.query_calls.proofs.on_memberships.has_unread.Goals as goal

pub returns-then-first-eq0 : goal.returns-then-first-eq0
returns-then-first-eq0 c =
    let set = c.args.read.now.numbers in
    rw c.if-first-eq0.true (sym (unread_from_zero set c.args.last))
