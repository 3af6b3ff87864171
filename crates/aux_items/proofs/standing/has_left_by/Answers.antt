use Rattle.std.proofs.Common.{ℕ, Bool, List, ◌==◌, ◌&&◌, not, sym, ap, ◌∙◌, option_copied, arith}
use Rattle.kom_types.specs.declared.aux_items.AuxRow.{AuxRow}
use Rattle.kom_types.specs.AuxItems.{is_among}
use Rattle.aux_items.proofs.Scanning.{absent_past, any_here, any_later, any_end}
use Rattle.aux_items.proofs.standing.has_left_by.Goals as goal
use Rattle.aux_items.proofs.standing.has_left_by.Goals.{in-Some+else-is_left_by, in_default}

-- an item of this tag and this creator is left
abbrev stands_by : ℕ → ℕ → List ℕ → AuxRow → Bool
stands_by tag creator deleted item =
    (item.tag == tag && item.creator == creator) && not (is_among deleted item.number)

pub returns-then-is_left_by : goal.returns-then-is_left_by
returns-then-is_left_by g c =
    sym (sym c.loop-place.invariant
    ∙ any_here (stands_by c.args.tag c.args.creator c.args.deleted.now)
    (g.R.ItemList.items c.args.rows.now) c.loop-place.place c.in-Some.item.now (sym c.in-Some.ensures)
    (sym c.if-is_left_by.ensures))

pub loop-place-preserved : goal.loop-place-preserved
loop-place-preserved g c =
    let items = g.R.ItemList.items c.args.rows.now in
    elim c.match-item.branch [
      | in-Some+else-is_left_by w ↦
          any_later (stands_by c.args.tag c.args.creator c.args.deleted.now) items
          c.loop-place.place w.in-Some.item.now (sym w.in-Some.ensures) (sym w.if-is_left_by.ensures)
          ∙ c.loop-place.invariant
      | in_default w ↦ absurd
          (omega (
            arith,
            absent_past items c.loop-place.place (sym c.item.ensures ∙ ap option_copied w.in_default.is),
          ))
    ]

pub returns : goal.returns
returns g c =
    sym (sym c.loop-place.invariant
    ∙ any_end (stands_by c.args.tag c.args.creator c.args.deleted.now)
    (g.R.ItemList.items c.args.rows.now) c.loop-place.place (omega arith))
