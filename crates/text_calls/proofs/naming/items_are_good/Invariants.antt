use Rattle.std.proofs.Common.{◌≡◌}
use Rattle.text_calls.proofs.ItemGuards.{refused_from}
use Rattle.text_calls.proofs.naming.items_are_good.Given as goal

abbrev pub invariant-loop-place : goal.invariant-loop-place
invariant-loop-place l = refused_from l.asked l.anonymous l.items 0 ≡ refused_from l.asked l.anonymous l.items l.place
