use Rattle.std.proofs.Common.{refl, arith}
use Rattle.kom_types.specs.declared.effects.Effect.TheVariants as effect
use Rattle.kom_model.specs.Effects.{after_effect}
use Rattle.kom_state.proofs.Fitted.{created-fits}
use Rattle.kom_state.proofs.Drawn.{above_created, positive_created}
use Rattle.kom_state.proofs.Making.{IsMade-texts}
use Rattle.kom_state.proofs.Kept.{IsKept-made}
use Rattle.kom_state.proofs.stored_rows.StoredRows.number_created.Goals as goal

pub draw_created-requires : goal.draw_created-requires
draw_created-requires c = omega (arith, (created-fits _ _ _ _ c.requires.fits).last)

pub number_created-requires-clause-unnumbered : goal.number_created-requires-clause-unnumbered
number_created-requires-clause-unnumbered c =
    let parts = created-fits _ _ _ _ (rw (← c.self.view_is) at c.requires.fits) in
    rw parts.found (parts.author, parts.unnumbered)

pub number_created-requires-clause-positive : goal.number_created-requires-clause-positive
number_created-requires-clause-positive c =
    let parts = created-fits _ _ _ _ (rw (← c.self.view_is) at c.requires.fits) in
    omega (arith, positive_created c.args.person _ c.self.invariant.from_one, parts.from)

pub number_created-requires-clause-above : goal.number_created-requires-clause-above
number_created-requires-clause-above c =
    let parts = created-fits _ _ _ _ (rw (← c.self.view_is) at c.requires.fits) in
    above_created _ c.self.invariant.whole c.args.person c.args.local parts.from

pub invariant_of-self : goal.invariant_of-self
unfolding after_effect
invariant_of-self c =
    IsKept-made (effect.Created c.args.person c.args.local c.args.text) _ _ _ _ c.self.invariant
    (rw (← c.self.view_is) at c.requires.fits) (rw (c.draw_created.ensures.rows, c.number_created.ensures.rows) refl)
    refl

pub returns : goal.returns
unfolding after_effect
returns c = rw (← c.self.view_is)
    (IsMade-texts (effect.Created c.args.person c.args.local c.args.text) _ _ _ _ _ c.self.inside.names
    c.self.inside.texts c.number_created.new.self _ _ _ _ _ _ refl (record {
      conferences = refl;
      conference_spare = omega arith;
      persons = c.draw_created.ensures.rows;
      person_spare = c.draw_created.ensures.spare;
      texts = c.number_created.ensures.rows;
      room = c.number_created.ensures.room;
    }))
