use Rattle.std.proofs.Common.{ℕ, Bool, true, cond, max, sym, ap, subst, ◌∙◌}
use Rattle.kom_types.specs.Mappings.{after_last}
use Rattle.local_maps.specs.Parts.{AreTaken}
use Rattle.local_maps.proofs.Parts.{mapping_up-taken, after_last-taken}
use Rattle.local_maps.proofs.mapping.upward.Goals as goal
use Rattle.local_maps.proofs.mapping.upward.Goals.{then-later, else-later}

pub returns : goal.returns
returns c =
    λ shown count are.
    let taken = c.args.taken.items in
    let first = c.args.first in
    let ends : Bool → ℕ = λ b. cond b (after_last first taken) (max first c.args.next) in
    elim c.if-later.branch [
      | then-later w ↦
          let as_slice = w.as_slice.ensures.value in
          let some : AreTaken shown first count taken true =
          subst (λ b. AreTaken shown first count taken b) w.if-later.true are in
          mapping_up-taken shown c.args.next first count taken c.args.later _ _ are
          (w.end-is
          ∙ w.after_last-end.ensures (rw as_slice (after_last-taken shown first count taken some c.ranges.first.fits))
          ∙ ap (after_last first) as_slice
          ∙ sym (ap ends w.if-later.true))
          c.in_ok-block_of.ensures
      | else-later w ↦
          mapping_up-taken shown c.args.next first count taken c.args.later _ _ are
          (w.end-is ∙ w.max-end.ensures ∙ sym (ap ends w.if-later.false)) c.in_ok-block_of.ensures
    ]
