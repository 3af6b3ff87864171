use Rattle.std.proofs.Common.{refl}
use Rattle.kom_model.proofs.whole.Effects.{empty-whole}
use Rattle.kom_state.proofs.stored_rows.StoredRows.empty.Goals as goal

pub invariant_of-result : goal.invariant_of-result
invariant_of-result c =
    rw (
      c.new.ensures,
      c.new-2.ensures,
      c.new-3.ensures.rows,
      c.new-3.ensures.reads,
      c.new-4.ensures,
      c.new-5.ensures,
      c.new-6.ensures,
    ) (record { whole = empty-whole; same_names = refl; from_one = tt })
