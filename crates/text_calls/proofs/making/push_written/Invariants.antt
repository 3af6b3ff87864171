use Rattle.std.proofs.Common.{◌≡◌}
use Rattle.kom_model.specs.calls.NewTexts.{item_written, names_recipient}
use Rattle.kom_state.proofs.Pushing.{pushed_to}
use Rattle.text_calls.proofs.making.push_written.Given as goal

abbrev pub invariant-loop-item : goal.invariant-loop-item
invariant-loop-item l = l.effects ≡ pushed_to names_recipient (item_written l.asked) l.fn.effects l.items l.item-index
