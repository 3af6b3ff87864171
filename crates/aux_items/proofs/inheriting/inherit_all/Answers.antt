use Rattle.std.proofs.Common.{◌∙◌, sym, ap, subst, drop, ◌+◌, option_copied, arith}
use Rattle.kom_types.specs.AuxItems.{inherit}
use Rattle.aux_items.proofs.Inheritance.{Begins, begins-more, inherited-more, inherited-all}
use Rattle.aux_items.proofs.Scanning.{absent_past}
use Rattle.aux_items.proofs.inheriting.inherit_all.Goals as goal
use Rattle.aux_items.proofs.inheriting.inherit_all.Goals.{in-Some+in_ok-inherit_one, in_default}

pub loop-place-preserved : goal.loop-place-preserved
loop-place-preserved g c =
    let rows = c.loop-place.rows in
    let parent = g.R.ItemList.items c.args.parent.now in
    let place = c.loop-place.place in
    elim c.match-item.branch [
      | in-Some+in_ok-inherit_one w ↦
          let item = w.in-Some.item.now in
          let is = w.rows-is ∙ w.in_ok-inherit_one.ensures.ok in
          record {
            value =
                c.loop-place.invariant.value
                ∙ inherited-more rows parent place item (sym w.in-Some.ensures)
                ∙ ap (λ now. inherit now (drop (place + 1) parent)) (sym is);
            own =
                subst (Begins c.args.rows.now) (sym is)
                (begins-more c.args.rows.now rows c.loop-place.invariant.own item);
          }
      | in_default w ↦ absurd
          (omega (arith, absent_past parent place (sym c.item.ensures ∙ ap option_copied w.in_default.is)))
    ]

pub returns-clause-ok : goal.returns-clause-ok
returns-clause-ok g c =
    sym (c.loop-place.invariant.value
    ∙ inherited-all c.loop-place.rows (g.R.ItemList.items c.args.parent.now) c.loop-place.place (omega arith))
