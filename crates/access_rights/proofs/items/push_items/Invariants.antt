use Rattle.std.proofs.Common.{◌≡◌, ◌∷◌, []}
use Rattle.kom_types.specs.AuxItems.{is_shown}
use Rattle.kom_model.specs.Db.{items_of}
use Rattle.kom_model.specs.Shown.{item_told}
use Rattle.access_rights.proofs.Pushing.{pushed_to, if_kept}
use Rattle.access_rights.proofs.items.push_items.Given as goal

abbrev pub invariant-loop-place : goal.invariant-loop-place
invariant-loop-place g l =
    l.items
    ≡ pushed_to (if_kept (is_shown l.by) (λ item. item_told l.by item ∷ [])) l.fn.items
    (items_of (g.R.Rows.db l.rows) l.on_text l.object) l.place
