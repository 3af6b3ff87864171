use Rattle.std.proofs.Common.{◌≡◌}
use Rattle.kom_types.specs.AuxItems.{left_after, refused_added}
use Rattle.aux_items.proofs.Refusals.{additions_from}
use Rattle.aux_items.proofs.checking.check_added.Given as goal

abbrev pub invariant-loop-place : goal.invariant-loop-place
invariant-loop-place g l =
    let left = left_after l.deleted (g.R.ItemList.items l.rows) in
    refused_added l.on l.by left 0 l.added ≡ additions_from l.on l.by left l.added l.place
