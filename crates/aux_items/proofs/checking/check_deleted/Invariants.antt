use Rattle.std.proofs.Common.{◌≡◌}
use Rattle.aux_items.proofs.Refusals.{deletions_from}
use Rattle.aux_items.proofs.checking.check_deleted.Given as goal

abbrev pub invariant-loop-place : goal.invariant-loop-place
invariant-loop-place g l =
    let items = g.R.ItemList.items l.rows in
    deletions_from l.by items l.deleted 0 ≡ deletions_from l.by items l.deleted l.place
