use Rattle.std.proofs.Common.{refl, sym}
use Rattle.std.proofs.lemmas.Option.{none-some}
use Rattle.std.proofs.lemmas.Bool.{and_parts}
use Rattle.kom_types.specs.declared.effects.Effect.TheVariants as effect
use Rattle.kom_types.specs.tables.Conferences.{with_name}
use Rattle.kom_model.specs.Effects.{fits, after_effect}
use Rattle.kom_state.proofs.Making.{IsMade-conference}
use Rattle.kom_state.proofs.Kept.{IsKept-made, taken-kept}
use Rattle.kom_state.proofs.stored_rows.StoredRows.rename_conference.Goals as goal

pub put-requires : goal.put-requires
unfolding fits
put-requires c =
    rw c.as_slice.ensures (taken-kept _ _ c.self.invariant c.args.number c.args.name
    (and_parts _ _ (rw (← c.self.view_is) at c.requires.fits)).1)

pub invariant_of-self : goal.invariant_of-self
unfolding after_effect
invariant_of-self c =
    IsKept-made (effect.ConfNamed c.args.number c.args.name) _ _ _ _ c.self.invariant
    (rw (← c.self.view_is) at c.requires.fits) (rw c.rename.ensures.rows refl)
    (rw (c.unwrap.ensures, c.as_slice.ensures) at c.put.ensures.ok)

pub returns : goal.returns
unfolding after_effect
returns c = rw (← c.self.view_is)
    (IsMade-conference _ c.args.number (with_name c.args.name) _ _ _ _ c.self.inside.names c.put.new.self _ _ _
    (λ db. refl) c.rename.ensures.rows c.rename.ensures.spare (λ none. absurd (none-some _ (sym none))))
