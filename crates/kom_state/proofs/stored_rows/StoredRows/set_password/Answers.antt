use Rattle.std.proofs.Common.{refl}
use Rattle.kom_types.specs.tables.Persons.{with_hash}
use Rattle.kom_types.specs.declared.effects.Effect.TheVariants as effect
use Rattle.kom_model.specs.Effects.{after_effect}
use Rattle.kom_state.proofs.Making.{IsMade-person}
use Rattle.kom_state.proofs.Kept.{IsKept-made}
use Rattle.kom_state.proofs.stored_rows.StoredRows.set_password.Goals as goal

pub invariant_of-self : goal.invariant_of-self
unfolding after_effect
invariant_of-self c =
    IsKept-made (effect.Password c.args.number c.args.hash) _ _ _ _ c.self.invariant
    (rw (← c.self.view_is) at c.requires.fits) (rw c.set_hash.ensures.rows refl) refl

pub returns : goal.returns
unfolding after_effect
returns c = rw (← c.self.view_is)
    (IsMade-person _ c.args.number (with_hash c.args.hash) _ _ _ _ c.self.inside.names _ _ _ (λ db. refl)
    c.set_hash.ensures.rows c.set_hash.ensures.spare)
