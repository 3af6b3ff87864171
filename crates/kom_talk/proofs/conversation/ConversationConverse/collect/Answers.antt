use Rattle.kom_talk.proofs.Turning.{may_turn, kept_further, timed_by}
use Rattle.kom_talk.proofs.conversation.ConversationConverse.collect.Goals as goal

pub take_in-requires-clause-can : goal.take_in-requires-clause-can
take_in-requires-clause-can g c =
    may_turn c.args.self.now (g.K.Desk.view c.args.desk.now) (g.L.Link.view c.args.link.now)
    (g.C.Clock.gave c.args.clock.now) c.requires.kept

pub returns-clause-kept : goal.returns-clause-kept
returns-clause-kept g c =
    kept_further c.args.self.now c.take_in.new.self (g.K.Desk.view c.args.desk.now)
    (g.K.Desk.view c.take_in.new.desk) (g.L.Link.view c.args.link.now) (g.L.Link.view c.take_in.new.link)
    (g.C.Clock.gave c.args.clock.now) (g.C.Clock.gave c.take_in.new.clock) c.take_in.ensures.goes c.requires.kept

pub returns-clause-timed : goal.returns-clause-timed
returns-clause-timed g c =
    timed_by c.args.self.now c.take_in.new.self (g.K.Desk.view c.args.desk.now)
    (g.K.Desk.view c.take_in.new.desk) (g.L.Link.view c.args.link.now) (g.L.Link.view c.take_in.new.link)
    (g.C.Clock.gave c.args.clock.now) (g.C.Clock.gave c.take_in.new.clock) c.take_in.ensures.goes
