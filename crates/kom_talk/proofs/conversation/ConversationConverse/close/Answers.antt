use Rattle.kom_session.specs.Known.{known_by}
use Rattle.kom_talk.proofs.Served.{closed_talk}
use Rattle.kom_talk.proofs.Turning.{can_go}
use Rattle.kom_talk.proofs.conversation.ConversationConverse.close.Goals as goal

pub close-served-requires-clause-can : goal.close-served-requires-clause-can
close-served-requires-clause-can g c =
    can_go c.args.self (g.K.Desk.view c.args.desk.now) (g.L.Link.view c.args.link.now)
    (g.C.Clock.gave c.args.clock.now) c.requires.kept

pub returns-clause-talks : goal.returns-clause-talks
returns-clause-talks g c = λ session seat.
    closed_talk (known_by c.args.self.machine) c.requires.kept.start (g.K.Desk.view c.args.desk.now)
    (g.K.Desk.view c.close-served.new.desk) (g.L.Link.view c.args.link.now) (g.C.Clock.gave c.args.clock.now)
    (g.C.Clock.gave c.close-served.new.clock) c.has_risen.result c.close-served.result c.requires.kept.blank
    c.requires.kept.fresh c.requires.kept.kept (rw c.faults.ensures at c.has_risen.ensures)
    c.close-served.ensures.untimed c.close-served.ensures.adds c.close-served.ensures.session session seat

pub returns-clause-timed : goal.returns-clause-timed
returns-clause-timed g c =
    (c.close-served.ensures.adds.added, c.close-served.ensures.adds.mine, c.close-served.ensures.adds.timed)
