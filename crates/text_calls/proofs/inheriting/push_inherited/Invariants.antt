use Rattle.std.proofs.Common.{◌≡◌}
use Rattle.text_calls.proofs.Handed.{handed_to}
use Rattle.text_calls.proofs.inheriting.push_inherited.Given as goal

abbrev pub invariant-loop-item : goal.invariant-loop-item
invariant-loop-item l = l.items ≡ handed_to l.asked.db l.fn.items l.named l.item-index
