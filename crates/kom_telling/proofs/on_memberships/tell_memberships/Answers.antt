use Rattle.std.proofs.Common.{refl}
use Rattle.kom_telling.specs.Sections.{member_parts}
use Rattle.kom_telling.proofs.Going.{along-first, along-on, along-end}
use Rattle.kom_telling.proofs.on_memberships.tell_memberships.Goals as goal

pub loop-one-init : goal.loop-one-init
loop-one-init g c = record {
  told = along-first g.S.PartSink.took (member_parts c.args.rows.now.db) c.args.joined.now c.args.sink.now;
  keeps = λ first held. held;
}

pub loop-one-preserved : goal.loop-one-preserved
loop-one-preserved g c = record {
  told = along-on g.S.PartSink.took (member_parts c.args.rows.now.db) c.args.joined.now
      c.loop-one.one-index _ _ _ _ _ c.loop-one-test.true refl c.loop-one.invariant.told
      c.in_ok-tell_membership.ensures.told;
  keeps = λ first held. c.in_ok-tell_membership.ensures.keeps first (c.loop-one.invariant.keeps first held);
}

pub returns-clause-told : goal.returns-clause-told
returns-clause-told g c =
    along-end g.S.PartSink.took (member_parts c.args.rows.now.db) c.args.joined.now
    c.loop-one.one-index _ _ c.loop-one-test.false c.loop-one.invariant.told
