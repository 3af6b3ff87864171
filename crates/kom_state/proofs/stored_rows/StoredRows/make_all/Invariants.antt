use Rattle.std.proofs.Common.{◌≡◌}
use Rattle.kom_model.specs.Effects.{apply_all}
use Rattle.kom_state.proofs.stored_rows.StoredRows.make_all.Given as goal

abbrev pub invariant-loop-effect : goal.invariant-loop-effect
invariant-loop-effect l = l.self.db ≡ apply_all l.yielded l.initial.self.db
