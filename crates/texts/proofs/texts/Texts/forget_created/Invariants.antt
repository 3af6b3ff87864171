use Rattle.std.proofs.Common.{◌≡◌, length, map}
use Rattle.kom_types.specs.tables.Texts.{created_by}
use Rattle.texts.specs.Needs.{KeepsRoom}
use Rattle.texts.proofs.Forgetting.{forgotten}
use Rattle.texts.proofs.texts.Texts.forget_created.Given as goal

abbrev pub invariant-loop-local : goal.invariant-loop-local
invariant-loop-local l = record {
  rows : l.self.rows ≡ record l.initial.self.rows { texts = l.self.rows.texts };
  rest : map (forgotten l.person) l.self.rows.texts ≡ map (forgotten l.person) l.initial.self.rows.texts;
  room : KeepsRoom l.initial.self.room l.self.room;
}

abbrev pub decreases-loop-local : goal.decreases-loop-local
decreases-loop-local l = length (created_by l.person l.self.rows.texts)
