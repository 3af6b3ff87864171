use Rattle.std.proofs.Common.{refl}
use Rattle.kom_types.specs.declared.effects.Effect.TheVariants as effect
use Rattle.kom_types.specs.tables.Memberships.{without_membership}
use Rattle.kom_model.specs.Effects.{after_effect}
use Rattle.read_ranges.specs.Reads.{without_reader}
use Rattle.kom_state.proofs.Making.{IsMade-members}
use Rattle.kom_state.proofs.Kept.{IsKept-made}
use Rattle.kom_state.proofs.stored_rows.StoredRows.remove_membership.Goals as goal

pub invariant_of-self : goal.invariant_of-self
unfolding after_effect
invariant_of-self c =
    IsKept-made (effect.MemberGone c.args.person c.args.conference) _ _ _ _ c.self.invariant
    (rw (← c.self.view_is) at c.requires.fits) (rw (c.remove.ensures.rows, c.remove.ensures.reads) refl) refl

pub returns : goal.returns
unfolding after_effect
returns c = rw (← c.self.view_is)
    (IsMade-members (effect.MemberGone c.args.person c.args.conference)
    (without_membership c.args.person c.args.conference) (without_reader c.args.person c.args.conference)
    _ _ _ _ c.self.inside.names _ _ _ (λ db. refl) c.remove.ensures.rows c.remove.ensures.reads c.remove.ensures.room)
