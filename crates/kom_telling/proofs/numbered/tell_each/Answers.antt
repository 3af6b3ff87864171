use Rattle.std.proofs.Common.{refl}
use Rattle.kom_telling.specs.Sections.{parts_at}
use Rattle.kom_telling.proofs.Going.{along-first, along-on, along-end}
use Rattle.kom_telling.proofs.numbered.tell_each.Goals as goal

pub loop-number-init : goal.loop-number-init
loop-number-init g c = record {
  told = along-first g.S.PartSink.took (parts_at c.args.section c.args.rows.now.db) c.args.numbers.now c.args.sink.now;
  keeps = λ first held. held;
}

pub loop-number-preserved : goal.loop-number-preserved
loop-number-preserved g c = record {
  told = along-on g.S.PartSink.took (parts_at c.args.section c.args.rows.now.db) c.args.numbers.now
      c.loop-number.number-index 0 _ _ _ _ c.loop-number-test.true refl c.loop-number.invariant.told
      c.in_ok-tell_numbered.ensures.told;
  keeps = λ first held. c.in_ok-tell_numbered.ensures.keeps first (c.loop-number.invariant.keeps first held);
}

pub returns-clause-told : goal.returns-clause-told
returns-clause-told g c =
    along-end g.S.PartSink.took (parts_at c.args.section c.args.rows.now.db) c.args.numbers.now
    c.loop-number.number-index _ _ c.loop-number-test.false c.loop-number.invariant.told
