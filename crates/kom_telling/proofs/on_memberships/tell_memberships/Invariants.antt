use Rattle.kom_telling.specs.Sections.{member_parts}
use Rattle.kom_telling.specs.Takes.{Keeps}
use Rattle.kom_telling.proofs.Going.{Along}
use Rattle.kom_telling.proofs.on_memberships.tell_memberships.Given as goal

abbrev pub invariant-loop-one : goal.invariant-loop-one
invariant-loop-one g l = record {
  told : Along g.S.PartSink.took (member_parts l.rows.db) l.joined l.one-index l.fn.sink l.sink;
  keeps : Keeps g.S.PartSink.becomes l.fn.sink l.sink;
}
