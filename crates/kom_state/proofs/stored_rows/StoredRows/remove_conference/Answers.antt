use Rattle.std.proofs.Common.{ap, refl}
use Rattle.kom_types.specs.declared.effects.Effect.TheVariants as effect
use Rattle.kom_model.specs.Effects.{after_effect}
use Rattle.kom_state.proofs.Making.{IsMade-conference_gone}
use Rattle.kom_state.proofs.Kept.{IsKept-made}
use Rattle.kom_state.proofs.stored_rows.StoredRows.remove_conference.Goals as goal

pub invariant_of-self : goal.invariant_of-self
unfolding after_effect
invariant_of-self c =
    IsKept-made (effect.ConfGone c.args.number) _ _ _ _ c.self.invariant
    (rw (← c.self.view_is) at c.requires.fits) (rw c.remove-2.ensures.rows refl)
    (ap (λ lookup. lookup.names) c.remove.ensures)

pub returns : goal.returns
unfolding after_effect
returns c = rw (← c.self.view_is)
    (IsMade-conference_gone c.args.number _ _ _ _ c.self.inside.names c.remove.new.self _ _ _
    c.remove-2.ensures.rows c.remove-2.ensures.spare (ap (λ lookup. lookup.ready) c.remove.ensures))
