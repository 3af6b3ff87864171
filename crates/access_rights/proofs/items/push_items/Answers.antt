use Rattle.std.proofs.Common.{◌∷◌, [], sym, ap, ◌∙◌, option_copied, arith}
use Rattle.kom_types.specs.AuxItems.{is_shown}
use Rattle.kom_model.specs.Db.{items_of}
use Rattle.kom_model.specs.Shown.{item_told}
use Rattle.access_rights.proofs.Pushing.{absent_past, if_kept, pushed, pushed_kept_single}
use Rattle.access_rights.proofs.items.push_items.Goals as goal
use Rattle.access_rights.proofs.items.push_items.Goals.{in-Some+in_ok-push_item, in_default}

pub loop-place-preserved : goal.loop-place-preserved
loop-place-preserved g c =
    let by = c.args.by.now in
    let rows = items_of (g.R.Rows.db c.args.rows.now) c.args.on_text c.args.object in
    elim c.match-item.branch [
      | in-Some+in_ok-push_item w ↦
          pushed (if_kept (is_shown by) (λ item. item_told by item ∷ [])) c.args.items.now rows c.loop-place.place
          w.in-Some.item.now c.loop-place.items _ (sym w.in-Some.ensures) c.loop-place.invariant
          (w.items-is ∙ w.in_ok-push_item.ensures)
      | in_default w ↦ absurd
          (omega (arith, absent_past rows c.loop-place.place (sym c.item.ensures ∙ ap option_copied w.in_default.is)))
    ]

pub returns : goal.returns
returns g c =
    let by = c.args.by.now in
    pushed_kept_single (is_shown by) (item_told by) c.args.items.now
    (items_of (g.R.Rows.db c.args.rows.now) c.args.on_text c.args.object) c.loop-place.place c.loop-place.items
    (omega arith) c.loop-place.invariant
