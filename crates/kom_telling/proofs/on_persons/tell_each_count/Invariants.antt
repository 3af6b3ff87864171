use Rattle.std.proofs.Common.{map}
use Rattle.kom_types.specs.Parts.{Makes}
use Rattle.kom_snapshot.specs.Snap.{count_effect}
use Rattle.kom_telling.specs.Takes.{Keeps}
use Rattle.kom_telling.proofs.Going.{Along}
use Rattle.kom_telling.proofs.on_persons.tell_each_count.Given as goal

abbrev pub invariant-loop-one : goal.invariant-loop-one
invariant-loop-one g l = record {
  told : Along g.S.PartSink.took (λ one. map Makes (count_effect l.number one.0 one.1)) l.counts l.one-index l.fn.sink
      l.sink;
  keeps : Keeps g.S.PartSink.becomes l.fn.sink l.sink;
}
