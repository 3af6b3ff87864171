use Rattle.kom_state.proofs.Making.{IsMade-joined}
use Rattle.std.proofs.Common.{refl}
use Rattle.kom_types.specs.declared.effects.Effect.TheVariants as effect
use Rattle.kom_model.specs.Effects.{after_effect}
use Rattle.kom_state.proofs.Kept.{IsKept-made}
use Rattle.kom_state.proofs.stored_rows.StoredRows.add_person.Goals as goal

pub invariant_of-self : goal.invariant_of-self
unfolding after_effect
invariant_of-self c =
    let rows = rw (c.unwrap.ensures, c.fresh_person-row.ensures) at c.put.ensures.ok in
    IsKept-made (effect.PersonAdded c.args.number c.args.privileges c.args.flags c.args.last_login) _ _ _ _
    c.self.invariant (rw (← c.self.view_is) at c.requires.fits) (rw rows refl) refl

pub returns : goal.returns
returns c = rw (← c.self.view_is)
    (IsMade-joined c.args.number c.args.privileges c.args.flags c.args.last_login _ _ _ _ c.self.inside.names _ _ _
    (rw (c.unwrap.ensures, c.fresh_person-row.ensures) at c.put.ensures.ok) c.put.ensures.spare)
