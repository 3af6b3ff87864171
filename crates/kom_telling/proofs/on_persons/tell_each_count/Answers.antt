use Rattle.std.proofs.Common.{map, refl}
use Rattle.kom_types.specs.Parts.{Makes}
use Rattle.kom_snapshot.specs.Snap.{count_effect}
use Rattle.kom_telling.proofs.Going.{along-first, along-on, along-end}
use Rattle.kom_telling.proofs.on_persons.tell_each_count.Goals as goal

pub loop-one-init : goal.loop-one-init
loop-one-init g c = record {
  told = along-first g.S.PartSink.took (λ one. map Makes (count_effect c.args.number one.0 one.1)) c.args.counts.now
      c.args.sink.now;
  keeps = λ first held. held;
}

pub loop-one-preserved : goal.loop-one-preserved
loop-one-preserved g c = record {
  told = along-on g.S.PartSink.took (λ one. map Makes (count_effect c.args.number one.0 one.1)) c.args.counts.now
      c.loop-one.one-index _ _ _ _ _ c.loop-one-test.true refl c.loop-one.invariant.told
      c.in_ok-tell_count.ensures.told;
  keeps = λ first held. c.in_ok-tell_count.ensures.keeps first (c.loop-one.invariant.keeps first held);
}

pub returns-clause-told : goal.returns-clause-told
returns-clause-told g c =
    along-end g.S.PartSink.took (λ one. map Makes (count_effect c.args.number one.0 one.1)) c.args.counts.now
    c.loop-one.one-index _ _ c.loop-one-test.false c.loop-one.invariant.told
