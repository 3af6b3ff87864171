use Rattle.std.proofs.Common.{refl, sym, subst}
use Rattle.std.proofs.lemmas.Bool.{and_parts}
use Rattle.kom_types.specs.declared.effects.Effect.TheVariants as effect
use Rattle.kom_model.specs.Effects.{fits, after_effect}
use Rattle.read_ranges.specs.ListFault.{IsFaultless}
use Rattle.read_ranges.specs.Merged.{merge_all}
use Rattle.read_ranges.specs.Reads.{with_read, read_at}
use Rattle.read_ranges.proofs.Rising.{rise_faultless}
use Rattle.kom_state.proofs.Making.{IsMade-members}
use Rattle.kom_state.proofs.Kept.{IsKept-made}
use Rattle.kom_state.proofs.stored_rows.StoredRows.set_read.Goals as goal

pub invariant_of-self : goal.invariant_of-self
unfolding after_effect
invariant_of-self c =
    IsKept-made (effect.ReadSet c.args.person c.args.conference c.args.at c.args.ranges) _ _ _ _ c.self.invariant
    (rw (← c.self.view_is) at c.requires.fits)
    (rw (c.set_read.ensures.rows, rw c.into_vec.ensures at c.set_read.ensures.reads) refl) refl

pub set_read-requires : goal.set_read-requires
unfolding fits
set_read-requires c =
    subst IsFaultless (sym c.into_vec.ensures)
    ((rise_faultless c.args.ranges).0 (and_parts _ _ c.requires.fits).1)

pub returns : goal.returns
unfolding after_effect
returns c = rw (← c.self.view_is)
    (IsMade-members (effect.ReadSet c.args.person c.args.conference c.args.at c.args.ranges)
    (read_at c.args.person c.args.conference c.args.at)
    (with_read c.args.person c.args.conference (merge_all c.args.ranges))
    _ _ _ _ c.self.inside.names _ _ _ (λ db. refl) c.set_read.ensures.rows
    (rw c.into_vec.ensures at c.set_read.ensures.reads) c.set_read.ensures.room)
