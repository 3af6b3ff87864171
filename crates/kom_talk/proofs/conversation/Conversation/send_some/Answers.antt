use Rattle.kom_session.proofs.Going.{goes_same, goes_trans}
use Rattle.kom_talk.proofs.conversation.Conversation.send_some.Goals as goal

pub loop-init : goal.loop-init
loop-init g c = record {
  goes = goes_same _;
  on = g.met.K.Desk.goes_on_itself _;
}

pub drain_some-requires : goal.drain_some-requires
drain_some-requires g c = record {
  can = (c.requires.can.0, c.loop.invariant.goes.kept c.requires.can.0 c.requires.can.1);
}

pub returns-then-not-self-clause-goes : goal.returns-then-not-self-clause-goes
returns-then-not-self-clause-goes g c = goes_trans c.loop.invariant.goes c.drain_some.ensures.goes

pub loop-preserved : goal.loop-preserved
loop-preserved g c = record {
  goes = goes_trans (goes_trans c.loop.invariant.goes c.drain_some.ensures.goes)
      (c.write_once.ensures.goes (g.K.Desk.view c.drain_some.new.desk) (g.C.Clock.gave c.drain_some.new.clock));
  on = g.met.K.Desk.goes_on_further _ _ _ c.loop.invariant.on c.drain_some.ensures.on;
}
