use Rattle.std.proofs.Common.{◌≡◌}
use Rattle.async_fanout.proofs.Pushing.{pushed_to}
use Rattle.async_fanout.specs.Added.{made_by}
use Rattle.async_fanout.specs.Delivered.{all_brought, as_list}
use Rattle.async_fanout.proofs.on_texts.make.Given as goal

abbrev pub invariant-loop-effect : goal.invariant-loop-effect
invariant-loop-effect l =
    l.sent.items ≡ pushed_to (λ one. all_brought l.asked (as_list (made_by l.effects l.asked.db one))) l.fn.sent.items
    l.effects l.effect-index
