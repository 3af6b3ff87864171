use Rattle.std.proofs.Common.{◌≡◌, IsTrue}
use Rattle.std.specs.Vec.Iter.{into_iter_items}
use Rattle.kom_model.specs.Effects.{apply_all, all_fit}
use Rattle.kom_state.specs.Keepers.{append_pending}
use Rattle.kom_state.specs.Room.{HasRoom}
use Rattle.kom_state.proofs.stored_rows.StoredRows.apply_all.Given as goal

abbrev pub invariant-loop-effect : goal.invariant-loop-effect
invariant-loop-effect g l = record {
  db : l.self.db ≡ apply_all l.yielded l.initial.self.db;
  fit : IsTrue (all_fit (into_iter_items l.effect-iterator) l.self.db);
  room : HasRoom l.self.room (into_iter_items l.effect-iterator);
  kept : g.K.Keeper.pending l.keeper ≡ append_pending l.yielded (g.K.Keeper.pending l.initial.keeper);
  kept_room : g.K.Keeper.has_room l.keeper (into_iter_items l.effect-iterator);
  rest : g.K.Keeper.stays l.initial.keeper l.keeper;
}
