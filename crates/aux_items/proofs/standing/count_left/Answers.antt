use Rattle.std.proofs.Common.{not, refl, sym, ap, ◌∙◌, option_copied, arith}
use Rattle.std.proofs.lemmas.List.Filters.{length-filter_both}
use Rattle.kom_types.specs.declared.aux_items.AuxRow.{AuxRow}
use Rattle.kom_types.specs.AuxItems.{is_among}
use Rattle.aux_items.proofs.Scanning.{absent_past, count_here, count_later, count_end}
use Rattle.aux_items.proofs.standing.count_left.Goals as goal
use Rattle.aux_items.proofs.standing.count_left.Goals.{in-Some+then-not-is_among, in-Some+else-not-is_among, in_default}

pub overflow_add-count : goal.overflow_add-count
overflow_add-count g c =
    let items = g.R.ItemList.items c.args.rows.now in
    let left = λ (item : AuxRow). not (is_among c.args.deleted.now item.number) in
    omega (
      arith,
      c.loop-place.invariant,
      count_here left items c.loop-place.place c.in-Some.item.now (sym c.in-Some.ensures)
          (sym (ap not c.if-not-is_among.ensures)),
      length-filter_both left (λ item. not (left item)) (λ item. refl) items,
    )

pub loop-place-preserved : goal.loop-place-preserved
loop-place-preserved g c =
    let items = g.R.ItemList.items c.args.rows.now in
    let left = λ (item : AuxRow). not (is_among c.args.deleted.now item.number) in
    elim c.match-item.branch [
      | in-Some+then-not-is_among w ↦
          omega (
            arith,
            c.loop-place.invariant,
            w.count-is,
            count_here left items c.loop-place.place w.in-Some.item.now (sym w.in-Some.ensures)
                (sym (ap not w.if-not-is_among.ensures)),
          )
      | in-Some+else-not-is_among w ↦
          omega (
            arith,
            c.loop-place.invariant,
            w.count-is,
            count_later left items c.loop-place.place w.in-Some.item.now (sym w.in-Some.ensures)
                (sym (ap not w.if-not-is_among.ensures)),
          )
      | in_default w ↦ absurd
          (omega (
            arith,
            absent_past items c.loop-place.place (sym c.item.ensures ∙ ap option_copied w.in_default.is),
          ))
    ]

pub returns-clause-count : goal.returns-clause-count
returns-clause-count g c =
    let items = g.R.ItemList.items c.args.rows.now in
    let left = λ (item : AuxRow). not (is_among c.args.deleted.now item.number) in
    omega (arith, c.loop-place.invariant, count_end left items c.loop-place.place (omega arith))

pub returns-clause-bound : goal.returns-clause-bound
returns-clause-bound g c =
    let items = g.R.ItemList.items c.args.rows.now in
    let left = λ (item : AuxRow). not (is_among c.args.deleted.now item.number) in
    omega (
      arith,
      c.loop-place.invariant,
      length-filter_both left (λ item. not (left item)) (λ item. refl) items,
    )
