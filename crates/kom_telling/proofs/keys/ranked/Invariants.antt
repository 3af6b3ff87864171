use Rattle.std.proofs.Common.{take}
use Rattle.row_slots.specs.Lists.{list_of}
use Rattle.kom_telling.proofs.Ranks.{Counts, Ranked}
use Rattle.kom_telling.proofs.keys.ranked.Given as goal

abbrev pub invariant-loop-one : goal.invariant-loop-one
invariant-loop-one l = record {
  ranked : Ranked l.placed l.one-index l.joined.items;
  before : Counts (list_of l.before) (take l.one-index l.placed);
}
