use Rattle.std.proofs.Common.{refl, arith, true}
use Rattle.kom_types.specs.declared.effects.Effect.TheVariants as effect
use Rattle.kom_model.specs.Effects.{after_effect}
use Rattle.kom_state.proofs.FittedItems.{item-fits}
use Rattle.kom_state.proofs.ItemRooms.{room_to_add, added_uses_spare, added_uses_objects}
use Rattle.kom_state.proofs.Making.{IsMade-items}
use Rattle.kom_state.proofs.Drawn.{absent_item}
use Rattle.kom_state.proofs.Kept.{IsKept-made}
use Rattle.kom_state.proofs.stored_rows.StoredRows.add_text_item.Goals as goal

pub draw_item-requires : goal.draw_item-requires
draw_item-requires c = omega (arith, (item-fits _ true _ _ c.requires.fits).last)

pub add-requires-clause-absent : goal.add-requires-clause-absent
add-requires-clause-absent c =
    absent_item _ c.self.invariant.whole true c.args.object c.args.item.number
    (item-fits _ true _ _ (rw (← c.self.view_is) at c.requires.fits)).from

pub add-requires-clause-room : goal.add-requires-clause-room
add-requires-clause-room c =
    room_to_add _ true c.args.object c.args.item (rw (← c.self.view_is) at c.requires.room).items

pub invariant_of-self : goal.invariant_of-self
unfolding after_effect
invariant_of-self c =
    IsKept-made (effect.AuxAdded true c.args.object c.args.item) _ _ _ _ c.self.invariant
    (rw (← c.self.view_is) at c.requires.fits) (rw (c.draw_item.ensures.rows, c.add.ensures.rows) refl) refl

pub returns : goal.returns
unfolding after_effect
returns c = rw (← c.self.view_is)
    (IsMade-items (effect.AuxAdded true c.args.object c.args.item) _ _ _ _ c.self.inside.names c.self.inside.texts
    c.draw_item.new.self
    c.self.inside.items c.add.new.self _ _ _ _ _ refl (record {
      conferences = refl;
      conference_spare = omega arith;
      texts = c.draw_item.ensures.rows;
      room = λ need. omega (arith, c.draw_item.ensures.room need);
      items = c.add.ensures.rows;
      spare = added_uses_spare _ _ true c.args.object c.args.item c.add.ensures.room;
      of_objects = added_uses_objects _ _ true c.args.object c.args.item c.add.ensures.room;
    }))
