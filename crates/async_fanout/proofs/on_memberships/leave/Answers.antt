use Rattle.std.proofs.Common.{◌++◌, ◌∙◌, ap, arith}
use Rattle.kom_model.specs.ToWhom.{left_conference}
use Rattle.async_fanout.specs.Delivered.{all_brought, as_list}
use Rattle.async_fanout.proofs.Brought.{brought-each}
use Rattle.async_fanout.proofs.Pushing.{pushed_all}
use Rattle.async_fanout.proofs.on_memberships.leave.Goals as goal

pub returns : goal.returns
returns c =
    pushed_all (λ one. all_brought c.args.asked.now (as_list (left_conference one))) c.args.sent.now.items
    c.args.effects.now c.loop-effect.effect-index c.loop-effect.sent.items (omega arith) c.loop-effect.invariant
    ∙ ap (λ list. c.args.sent.now.items ++ list) (brought-each c.args.asked.now (left_conference) c.args.effects.now)
