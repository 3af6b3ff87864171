use Rattle.kom_telling.specs.Sections.{section_parts}
use Rattle.kom_telling.specs.Takes.{Keeps}
use Rattle.kom_telling.proofs.Going.{Along}
use Rattle.kom_telling.proofs.sections.tell_sections.Given as goal

abbrev pub invariant-loop-section : goal.invariant-loop-section
invariant-loop-section g l = record {
  told : Along g.S.PartSink.took (section_parts l.rows.db) l.sections l.section-index l.fn.sink l.sink;
  keeps : Keeps g.S.PartSink.becomes l.fn.sink l.sink;
}
