use Rattle.std.proofs.Common.{◌++◌, ◌∙◌, ap, arith}
use Rattle.kom_model.specs.ToWhom.{logged_out}
use Rattle.async_fanout.specs.Delivered.{all_brought, as_list}
use Rattle.async_fanout.proofs.Brought.{brought-each}
use Rattle.async_fanout.proofs.Pushing.{pushed_all}
use Rattle.async_fanout.proofs.messages.push_logouts.Goals as goal

pub returns : goal.returns
returns c =
    pushed_all (λ one. all_brought c.args.asked.now (as_list (logged_out c.args.asked.now one))) c.args.sent.now.items
    c.args.changes.now c.loop-change.change-index c.loop-change.sent.items (omega arith) c.loop-change.invariant
    ∙ ap (λ list. c.args.sent.now.items ++ list) (brought-each c.args.asked.now (logged_out c.args.asked.now)
    c.args.changes.now)
