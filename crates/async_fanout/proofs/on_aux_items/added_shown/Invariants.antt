use Rattle.std.proofs.Common.{◌≡◌, []}
use Rattle.async_fanout.proofs.Pushing.{pushed_to}
use Rattle.async_fanout.proofs.Items.{shown_if, item_of}
use Rattle.async_fanout.proofs.on_aux_items.added_shown.Given as goal

abbrev pub invariant-loop-effect : goal.invariant-loop-effect
invariant-loop-effect l = l.items ≡ pushed_to (λ effect. shown_if l.by (item_of effect)) [] l.effects l.effect-index
