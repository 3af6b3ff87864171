use Rattle.std.proofs.Common.{refl, arith}
use Rattle.kom_types.specs.declared.effects.Effect.TheVariants as effect
use Rattle.kom_model.specs.Effects.{after_effect}
use Rattle.kom_state.proofs.Fitted.{recipient-fits}
use Rattle.kom_state.proofs.Drawn.{above_locals}
use Rattle.kom_state.proofs.Making.{IsMade-texts}
use Rattle.kom_state.proofs.Kept.{IsKept-made}
use Rattle.kom_state.proofs.stored_rows.StoredRows.add_recipient.Goals as goal

pub draw_local-requires : goal.draw_local-requires
draw_local-requires c = omega (arith, (recipient-fits _ _ c.requires.fits).last)

pub add_recipient-requires-clause-absent : goal.add_recipient-requires-clause-absent
add_recipient-requires-clause-absent c = (recipient-fits _ _ (rw (← c.self.view_is) at c.requires.fits)).absent

pub add_recipient-requires-clause-above : goal.add_recipient-requires-clause-above
add_recipient-requires-clause-above c =
    above_locals _ c.self.invariant.whole c.args.given.conference c.args.given.local
    (recipient-fits _ _ (rw (← c.self.view_is) at c.requires.fits)).from

pub invariant_of-self : goal.invariant_of-self
unfolding after_effect
invariant_of-self c =
    IsKept-made (effect.RecipientAdded c.args.given) _ _ _ _ c.self.invariant
    (rw (← c.self.view_is) at c.requires.fits) (rw (c.draw_local.ensures.rows, c.add_recipient.ensures.rows) refl) refl

pub returns : goal.returns
unfolding after_effect
returns c = rw (← c.self.view_is)
    (IsMade-texts (effect.RecipientAdded c.args.given) _ _ _ _ _ c.self.inside.names
    c.self.inside.texts c.add_recipient.new.self _ _ _ _ _ _ refl (record {
      conferences = c.draw_local.ensures.rows;
      conference_spare = c.draw_local.ensures.spare;
      persons = refl;
      person_spare = omega arith;
      texts = c.add_recipient.ensures.rows;
      room = c.add_recipient.ensures.room;
    }))
