use Rattle.std.proofs.Common.{◌+◌, refl, arith}
use Rattle.kom_types.specs.declared.limits.TheConstants.{LAST_CONFERENCE}
use Rattle.kom_types.specs.declared.raised.RaisedCounter.TheVariants as counter
use Rattle.kom_state.proofs.Raises.{IsKept-raised, next-bounded}
use Rattle.kom_state.proofs.stored_rows.StoredRows.raise_conferences.Goals as goal

pub overflow_cast-next : goal.overflow_cast-next
overflow_cast-next c = omega (arith, next-bounded c.args.object _ c.args.next (LAST_CONFERENCE + 1) c.requires)

pub invariant_of-self : goal.invariant_of-self
invariant_of-self c =
    IsKept-raised counter.Conferences c.args.object c.args.next _ _ _ c.self.invariant
    (rw (← c.self.view_is) at c.requires)
    refl

pub returns : goal.returns
returns c = rw (← c.self.view_is) refl
