use Rattle.std.proofs.Common.{refl}
use Rattle.kom_types.specs.tables.Persons.{logged_in}
use Rattle.kom_types.specs.declared.effects.Effect.TheVariants as effect
use Rattle.kom_model.specs.Effects.{after_effect}
use Rattle.kom_state.proofs.Making.{IsMade-person}
use Rattle.kom_state.proofs.Kept.{IsKept-made}
use Rattle.kom_state.proofs.stored_rows.StoredRows.log_in.Goals as goal

pub invariant_of-self : goal.invariant_of-self
unfolding after_effect
invariant_of-self c =
    IsKept-made (effect.LoggedIn c.args.number c.args.at c.args.user) _ _ _ _ c.self.invariant
    (rw (← c.self.view_is) at c.requires.fits) (rw c.log_in.ensures.rows refl) refl

pub returns : goal.returns
unfolding after_effect
returns c = rw (← c.self.view_is)
    (IsMade-person _ c.args.number (logged_in c.args.at c.args.user) _ _ _ _ c.self.inside.names _ _ _ (λ db. refl)
    c.log_in.ensures.rows c.log_in.ensures.spare)
