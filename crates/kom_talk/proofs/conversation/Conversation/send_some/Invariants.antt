-- What was kept is kept.
use Rattle.kom_session.specs.Kept.{Goes}
use Rattle.kom_talk.specs.Conversations.{at}
use Rattle.kom_talk.proofs.conversation.Conversation.send_some.Given as goal

abbrev pub invariant-loop : goal.invariant-loop
invariant-loop g l = record {
  goes : Goes (at l.fn.self (g.K.Desk.view l.fn.desk) (g.L.Link.view l.fn.link) (g.C.Clock.gave l.fn.clock))
      (at l.self (g.K.Desk.view l.desk) (g.L.Link.view l.link) (g.C.Clock.gave l.clock));
  on : g.K.Desk.goes_on l.fn.desk l.desk;
}
