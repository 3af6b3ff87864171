use Rattle.std.proofs.Common.{length}
use Rattle.kom_model.specs.calls.Memberships.{part, shown_memberships}
use Rattle.query_calls.proofs.Memberships.{AreTold}
use Rattle.query_calls.proofs.on_memberships.memberships_from.Given as goal

abbrev pub invariant-loop-row : goal.invariant-loop-row
invariant-loop-row l =
    AreTold l.asked l.want_ranges l.most l.first (part l.first l.count (shown_memberships l.asked l.person))
    (length l.yielded) l.told
