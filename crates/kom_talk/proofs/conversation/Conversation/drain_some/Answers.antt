use Rattle.std.proofs.Common.{refl}
use Rattle.kom_session.proofs.Going.{goes_same, goes_trans}
use Rattle.kom_talk.proofs.conversation.Conversation.drain_some.Goals as goal

pub loop-init : goal.loop-init
loop-init g c = record {
  goes = goes_same _;
  on = g.met.K.Desk.goes_on_itself _;
}

pub drain-requires-clause-can : goal.drain-requires-clause-can
drain-requires-clause-can g c = (
  c.requires.can.0,
  g.L.Link.view c.args.link.now,
  c.loop.invariant.goes.kept c.requires.can.0 c.requires.can.1,
)

pub loop-preserved : goal.loop-preserved
loop-preserved g c =
    let link = g.L.Link.view c.args.link.now in
    record {
      goes = goes_trans c.loop.invariant.goes (c.drain.ensures.made link.host link refl);
      on = g.met.K.Desk.goes_on_further _ _ _ c.loop.invariant.on c.drain.ensures.on;
    }
