use Rattle.kom_talk.proofs.Turning.{may_turn, kept_further, timed_by}
use Rattle.kom_talk.proofs.conversation.ConversationConverse.drain.Goals as goal

pub drain_some-requires : goal.drain_some-requires
drain_some-requires g c = record {
  can = may_turn c.args.self.now (g.K.Desk.view c.args.desk.now) (g.L.Link.view c.args.link.now)
      (g.C.Clock.gave c.args.clock.now) c.requires;
}

pub returns-clause-kept : goal.returns-clause-kept
returns-clause-kept g c =
    kept_further c.args.self.now c.drain_some.new.self (g.K.Desk.view c.args.desk.now)
    (g.K.Desk.view c.drain_some.new.desk) (g.L.Link.view c.args.link.now) (g.L.Link.view c.args.link.now)
    (g.C.Clock.gave c.args.clock.now) (g.C.Clock.gave c.drain_some.new.clock) c.drain_some.ensures.goes c.requires

pub returns-clause-timed : goal.returns-clause-timed
returns-clause-timed g c =
    timed_by c.args.self.now c.drain_some.new.self (g.K.Desk.view c.args.desk.now)
    (g.K.Desk.view c.drain_some.new.desk) (g.L.Link.view c.args.link.now) (g.L.Link.view c.args.link.now)
    (g.C.Clock.gave c.args.clock.now) (g.C.Clock.gave c.drain_some.new.clock) c.drain_some.ensures.goes
