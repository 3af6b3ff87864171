use Rattle.std.proofs.Common.{◌≡◌}
use Rattle.kom_model.specs.Effects.{apply_all, fitting_effects}
use Rattle.kom_state.specs.Keepers.{append_pending}
use Rattle.kom_book.proofs.starting.make_all.Given as goal

abbrev pub invariant-loop-effect : goal.invariant-loop-effect
invariant-loop-effect g l = record {
  rows : l.rows.db ≡ apply_all l.yielded l.initial.rows.db;
  kept : g.K.Keeper.pending l.keeper
      ≡ append_pending (fitting_effects l.yielded l.initial.rows.db) (g.K.Keeper.pending l.initial.keeper);
  rest : g.K.Keeper.stays l.initial.keeper l.keeper;
}
