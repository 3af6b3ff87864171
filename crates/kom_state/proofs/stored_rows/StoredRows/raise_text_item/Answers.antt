use Rattle.std.proofs.Common.{refl, arith}
use Rattle.kom_types.specs.declared.raised.RaisedCounter.TheVariants as counter
use Rattle.kom_state.proofs.Raises.{IsKept-raised, next-fits}
use Rattle.kom_state.proofs.stored_rows.StoredRows.raise_text_item.Goals as goal

pub overflow_cast-next : goal.overflow_cast-next
overflow_cast-next c = omega (arith, next-fits counter.TextItems c.args.object c.args.next _ c.requires)

pub invariant_of-self : goal.invariant_of-self
invariant_of-self c =
    IsKept-raised counter.TextItems c.args.object c.args.next _ _ _ c.self.invariant
    (rw (← c.self.view_is) at c.requires)
    (rw c.set_next_item.ensures.rows refl)

pub returns : goal.returns
returns c = rw (← c.self.view_is) (rw c.set_next_item.ensures.rows refl)
