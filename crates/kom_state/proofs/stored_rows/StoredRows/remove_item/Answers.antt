use Rattle.std.proofs.Common.{refl, arith}
use Rattle.kom_types.specs.declared.effects.Effect.TheVariants as effect
use Rattle.kom_model.specs.Effects.{after_effect}
use Rattle.kom_state.proofs.Making.{IsMade-items}
use Rattle.kom_state.proofs.Kept.{IsKept-made}
use Rattle.kom_state.proofs.stored_rows.StoredRows.remove_item.Goals as goal

pub invariant_of-self : goal.invariant_of-self
unfolding after_effect
invariant_of-self c =
    IsKept-made (effect.AuxGone c.args.on_text c.args.object c.args.number) _ _ _ _ c.self.invariant
    (rw (← c.self.view_is) at c.requires.fits) (rw c.remove.ensures.rows refl) refl

pub returns : goal.returns
unfolding after_effect
returns c = rw (← c.self.view_is)
    (IsMade-items (effect.AuxGone c.args.on_text c.args.object c.args.number) _ _ _ _ c.self.inside.names
    c.self.inside.texts c.self.inside.texts c.self.inside.items c.remove.new.self _ _ _ _ _ refl (record {
      conferences = refl;
      conference_spare = omega arith;
      texts = refl;
      room = λ need. omega arith;
      items = c.remove.ensures.rows;
      spare = let spare = c.remove.ensures.room.spare in omega (arith, spare);
      of_objects = λ kind other. let rooms = c.remove.ensures.room.of_objects kind other in omega (arith, rooms);
    }))
