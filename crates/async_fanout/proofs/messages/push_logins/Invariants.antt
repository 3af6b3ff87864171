use Rattle.std.proofs.Common.{◌≡◌}
use Rattle.async_fanout.proofs.Pushing.{pushed_to}
use Rattle.kom_model.specs.ToWhom.{logged_in}
use Rattle.async_fanout.specs.Delivered.{all_brought, as_list}
use Rattle.async_fanout.proofs.messages.push_logins.Given as goal

abbrev pub invariant-loop-change : goal.invariant-loop-change
invariant-loop-change l =
    l.sent.items ≡ pushed_to (λ one. all_brought l.asked (as_list (logged_in one))) l.fn.sent.items l.changes
    l.change-index
