use Rattle.std.proofs.Common.{refl, arith}
use Rattle.kom_types.specs.declared.effects.Effect.TheVariants as effect
use Rattle.kom_model.specs.Effects.{after_effect}
use Rattle.kom_state.proofs.Making.{IsMade-added}
use Rattle.kom_state.proofs.Kept.{IsKept-made, added-parts, taken-kept}
use Rattle.kom_state.proofs.stored_rows.StoredRows.add_conference.Goals as goal

pub put-requires : goal.put-requires
put-requires c =
    let parts = added-parts _ _ _ _ _ _ _ (rw (← c.self.view_is) at c.requires.fits) in
    rw (c.as_slice.ensures, c.fresh_conference-row.ensures)
    (taken-kept _ _ c.self.invariant c.args.number c.args.name parts.0)

pub overflow_add-self : goal.overflow_add-self
overflow_add-self c =
    let parts = added-parts _ _ _ _ _ _ _ c.requires.fits in omega (arith, parts.1)

pub invariant_of-self : goal.invariant_of-self
unfolding after_effect
invariant_of-self c =
    let rows = rw (c.unwrap-2.ensures, c.fresh_conference-row.ensures) at c.put-2.ensures.ok in
    IsKept-made (effect.ConfAdded c.args.number c.args.name c.args.kind c.args.at c.args.creator c.args.supervisor)
    _ _ _ _ c.self.invariant (rw (← c.self.view_is) at c.requires.fits) (rw rows refl)
    (rw (c.unwrap.ensures, c.as_slice.ensures, c.fresh_conference-row.ensures) at c.put.ensures.ok)

pub returns : goal.returns
unfolding after_effect
returns c = rw (← c.self.view_is)
    (IsMade-added c.args.number c.args.name c.args.kind c.args.at c.args.creator c.args.supervisor _ _ _ _
    c.self.inside.names c.put.new.self _ _ _
    (rw (c.unwrap-2.ensures, c.fresh_conference-row.ensures) at c.put-2.ensures.ok) c.put-2.ensures.spare)
