use Rattle.std.proofs.Common.{refl, arith}
use Rattle.kom_types.specs.declared.effects.Effect.TheVariants as effect
use Rattle.kom_model.specs.Effects.{after_effect}
use Rattle.kom_state.proofs.Fitted.{link-fits}
use Rattle.kom_state.proofs.Making.{IsMade-texts}
use Rattle.kom_state.proofs.Kept.{IsKept-made}
use Rattle.kom_state.proofs.stored_rows.StoredRows.add_link.Goals as goal

pub add_link-requires-clause-absent : goal.add_link-requires-clause-absent
add_link-requires-clause-absent c = link-fits _ _ (rw (← c.self.view_is) at c.requires.fits)

pub invariant_of-self : goal.invariant_of-self
unfolding after_effect
invariant_of-self c =
    IsKept-made (effect.LinkAdded c.args.given) _ _ _ _ c.self.invariant
    (rw (← c.self.view_is) at c.requires.fits) (rw c.add_link.ensures.rows refl) refl

pub returns : goal.returns
unfolding after_effect
returns c = rw (← c.self.view_is)
    (IsMade-texts (effect.LinkAdded c.args.given) _ _ _ _ _ c.self.inside.names
    c.self.inside.texts c.add_link.new.self _ _ _ _ _ _ refl (record {
      conferences = refl;
      conference_spare = omega arith;
      persons = refl;
      person_spare = omega arith;
      texts = c.add_link.ensures.rows;
      room = c.add_link.ensures.room;
    }))
