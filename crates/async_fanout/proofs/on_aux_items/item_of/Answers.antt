use Rattle.std.proofs.Common.{◌==◌, true, ap, sym, ◌∙◌, arith}
use Rattle.std.specs.Option.{option_copied}
use Rattle.kom_model.specs.Db.{items_of}
use Rattle.std.proofs.lemmas.Bool.{eq-eqb, ne_eqb}
use Rattle.async_fanout.proofs.Items.{find-at, find-more}
use Rattle.async_fanout.proofs.Pushing.{absent_past}
use Rattle.async_fanout.proofs.on_aux_items.item_of.Goals as goal
use Rattle.async_fanout.proofs.on_aux_items.item_of.Goals.{in-Some+else-item-number, in_default}

pub returns-then-item-number : goal.returns-then-item-number
returns-then-item-number c =
    find-at (λ item. item.number == c.args.number) (items_of c.args.rows.now.db true c.args.text) c.loop-place.place
    c.in-Some.item.now c.loop-place.invariant c.in-Some.ensures (eq-eqb _ _ c.if-item-number.true)

pub loop-place-preserved : goal.loop-place-preserved
loop-place-preserved c = elim c.match-nth_item.branch [
  | in-Some+else-item-number w ↦
      find-more (λ item. item.number == c.args.number) (items_of c.args.rows.now.db true c.args.text)
      c.loop-place.place w.in-Some.item.now c.loop-place.invariant w.in-Some.ensures
      (ne_eqb _ _ w.if-item-number.false)
  | in_default w ↦ absurd
      (omega (
        arith,
        absent_past (items_of c.args.rows.now.db true c.args.text) c.loop-place.place
            (sym c.nth_item.ensures ∙ ap option_copied w.in_default.is),
      ))
]
