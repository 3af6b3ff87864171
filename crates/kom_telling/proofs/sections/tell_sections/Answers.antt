use Rattle.std.proofs.Common.{refl}
use Rattle.kom_telling.specs.Sections.{section_parts}
use Rattle.kom_telling.proofs.Going.{along-first, along-on, along-end}
use Rattle.kom_telling.proofs.sections.tell_sections.Goals as goal

pub loop-section-init : goal.loop-section-init
loop-section-init g c = record {
  told = along-first g.S.PartSink.took (section_parts c.args.rows.now.db) c.args.sections.now c.args.sink.now;
  keeps = λ first held. held;
}

pub loop-section-preserved : goal.loop-section-preserved
loop-section-preserved g c = record {
  told = along-on g.S.PartSink.took (section_parts c.args.rows.now.db) c.args.sections.now
      c.loop-section.section-index _ _ _ _ _ c.loop-section-test.true refl c.loop-section.invariant.told
      c.in_ok-tell_section.ensures.told;
  keeps = λ first held. c.in_ok-tell_section.ensures.keeps first (c.loop-section.invariant.keeps first held);
}

pub returns-clause-told : goal.returns-clause-told
returns-clause-told g c =
    along-end g.S.PartSink.took (section_parts c.args.rows.now.db) c.args.sections.now
    c.loop-section.section-index _ _ c.loop-section-test.false c.loop-section.invariant.told
