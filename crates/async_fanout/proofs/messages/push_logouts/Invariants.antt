use Rattle.std.proofs.Common.{◌≡◌}
use Rattle.async_fanout.proofs.Pushing.{pushed_to}
use Rattle.kom_model.specs.ToWhom.{logged_out}
use Rattle.async_fanout.specs.Delivered.{all_brought, as_list}
use Rattle.async_fanout.proofs.messages.push_logouts.Given as goal

abbrev pub invariant-loop-change : goal.invariant-loop-change
invariant-loop-change l =
    l.sent.items ≡ pushed_to (λ one. all_brought l.asked (as_list (logged_out l.asked one))) l.fn.sent.items l.changes
    l.change-index
