use Rattle.std.proofs.Common.{◌==◌, ◌&&◌, not, sym, ap, ◌∙◌, option_copied, arith}
use Rattle.kom_types.specs.declared.aux_items.AuxRow.{AuxRow}
use Rattle.kom_types.specs.AuxItems.{is_among}
use Rattle.aux_items.proofs.Scanning.{absent_past, any_here, any_later, any_end}
use Rattle.aux_items.proofs.standing.has_left.Goals as goal
use Rattle.aux_items.proofs.standing.has_left.Goals.{in-Some+else-is_left, in_default}

pub returns-then-is_left : goal.returns-then-is_left
returns-then-is_left g c =
    sym (sym c.loop-place.invariant
    ∙ any_here (λ (item : AuxRow). item.tag == c.args.tag && not (is_among c.args.deleted.now item.number))
    (g.R.ItemList.items c.args.rows.now) c.loop-place.place c.in-Some.item.now (sym c.in-Some.ensures)
    (sym c.if-is_left.ensures))

pub loop-place-preserved : goal.loop-place-preserved
loop-place-preserved g c =
    let items = g.R.ItemList.items c.args.rows.now in
    elim c.match-item.branch [
      | in-Some+else-is_left w ↦
          any_later (λ (item : AuxRow). item.tag == c.args.tag && not (is_among c.args.deleted.now item.number)) items
          c.loop-place.place w.in-Some.item.now (sym w.in-Some.ensures) (sym w.if-is_left.ensures)
          ∙ c.loop-place.invariant
      | in_default w ↦ absurd
          (omega (
            arith,
            absent_past items c.loop-place.place (sym c.item.ensures ∙ ap option_copied w.in_default.is),
          ))
    ]

pub returns : goal.returns
returns g c =
    sym (sym c.loop-place.invariant
    ∙ any_end (λ (item : AuxRow). item.tag == c.args.tag && not (is_among c.args.deleted.now item.number))
    (g.R.ItemList.items c.args.rows.now) c.loop-place.place (omega arith))
