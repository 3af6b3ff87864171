use Rattle.std.proofs.Common.{◌==◌, ◌&&◌, sym, ap, ◌∙◌, option_copied, arith}
use Rattle.kom_types.specs.declared.aux_items.AuxRow.{AuxRow}
use Rattle.kom_types.specs.AuxItems.{is_shown}
use Rattle.aux_items.proofs.Scanning.{absent_past, find_here, find_later, find_end}
use Rattle.aux_items.proofs.checking.find_shown.Goals as goal
use Rattle.aux_items.proofs.checking.find_shown.Goals.{in-Some+else-is_shown_at, in_default}

pub returns-then-is_shown_at : goal.returns-then-is_shown_at
returns-then-is_shown_at g c =
    sym (sym c.loop-place.invariant
    ∙ find_here (λ (item : AuxRow). item.number == c.args.number && is_shown c.args.by.now item)
    (g.R.ItemList.items c.args.rows.now) c.loop-place.place c.in-Some.item.now (sym c.in-Some.ensures)
    (sym c.if-is_shown_at.ensures))

pub loop-place-preserved : goal.loop-place-preserved
loop-place-preserved g c =
    let items = g.R.ItemList.items c.args.rows.now in
    elim c.match-item.branch [
      | in-Some+else-is_shown_at w ↦
          find_later (λ (item : AuxRow). item.number == c.args.number && is_shown c.args.by.now item) items
          c.loop-place.place w.in-Some.item.now (sym w.in-Some.ensures) (sym w.if-is_shown_at.ensures)
          ∙ c.loop-place.invariant
      | in_default w ↦ absurd
          (omega (
            arith,
            absent_past items c.loop-place.place (sym c.item.ensures ∙ ap option_copied w.in_default.is),
          ))
    ]

pub returns : goal.returns
returns g c =
    sym (sym c.loop-place.invariant
    ∙ find_end (λ (item : AuxRow). item.number == c.args.number && is_shown c.args.by.now item)
    (g.R.ItemList.items c.args.rows.now) c.loop-place.place (omega arith))
