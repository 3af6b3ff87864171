use Rattle.std.proofs.Common.{refl, arith}
use Rattle.kom_types.specs.declared.effects.Effect.TheVariants as effect
use Rattle.kom_model.specs.Effects.{after_effect}
use Rattle.kom_state.proofs.Fitted.{text-fits}
use Rattle.kom_state.proofs.Making.{IsMade-texts}
use Rattle.kom_state.proofs.Kept.{IsKept-made}
use Rattle.kom_state.proofs.stored_rows.StoredRows.add_text.Goals as goal

pub add-requires-clause-size : goal.add-requires-clause-size
add-requires-clause-size c = (text-fits _ _ _ _ _ c.requires.fits).size

pub add-requires-clause-absent : goal.add-requires-clause-absent
add-requires-clause-absent c = (text-fits _ _ _ _ _ (rw (← c.self.view_is) at c.requires.fits)).absent

pub overflow_add-self : goal.overflow_add-self
overflow_add-self c = omega (arith, (text-fits _ _ _ _ _ c.requires.fits).last)

pub invariant_of-self : goal.invariant_of-self
unfolding after_effect
invariant_of-self c =
    IsKept-made (effect.TextAdded c.args.number c.args.author c.args.at c.args.body) _ _ _ _ c.self.invariant
    (rw (← c.self.view_is) at c.requires.fits) (rw c.add.ensures.rows refl) refl

pub returns : goal.returns
unfolding after_effect
returns c = rw (← c.self.view_is)
    (IsMade-texts (effect.TextAdded c.args.number c.args.author c.args.at c.args.body) _ _ _ _ _ c.self.inside.names
    c.self.inside.texts c.add.new.self _ _ _ _ _ _ refl (record {
      conferences = refl;
      conference_spare = omega arith;
      persons = refl;
      person_spare = omega arith;
      texts = c.add.ensures.rows;
      room = c.add.ensures.room;
    }))
