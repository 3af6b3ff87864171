use Rattle.kom_telling.specs.Sections.{parts_at}
use Rattle.kom_telling.specs.Takes.{Keeps}
use Rattle.kom_telling.proofs.Going.{Along}
use Rattle.kom_telling.proofs.numbered.tell_each.Given as goal

abbrev pub invariant-loop-number : goal.invariant-loop-number
invariant-loop-number g l = record {
  told : Along g.S.PartSink.took (parts_at l.section l.rows.db) l.numbers l.number-index l.fn.sink l.sink;
  keeps : Keeps g.S.PartSink.becomes l.fn.sink l.sink;
}
