use Rattle.std.proofs.Common.{refl}
use Rattle.kom_types.specs.tables.Persons.{count_up}
use Rattle.kom_types.specs.declared.effects.Effect.TheVariants as effect
use Rattle.kom_model.specs.Effects.{after_effect}
use Rattle.kom_state.proofs.Making.{IsMade-person}
use Rattle.kom_state.proofs.Kept.{IsKept-made}
use Rattle.kom_state.proofs.stored_rows.StoredRows.count.Goals as goal

pub invariant_of-self : goal.invariant_of-self
unfolding after_effect
invariant_of-self c =
    IsKept-made (effect.Counted c.args.number c.args.counter c.args.by) _ _ _ _ c.self.invariant
    (rw (← c.self.view_is) at c.requires.fits) (rw c.count.ensures.rows refl) refl

pub returns : goal.returns
unfolding after_effect
returns c = rw (← c.self.view_is)
    (IsMade-person _ c.args.number (count_up c.args.counter c.args.by) _ _ _ _ c.self.inside.names _ _ _ (λ db. refl)
    c.count.ensures.rows c.count.ensures.spare)
