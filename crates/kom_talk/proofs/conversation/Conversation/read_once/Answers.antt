use Rattle.std.proofs.Common.{refl}
use Rattle.kom_session.specs.Known.{sight}
use Rattle.kom_talk.proofs.conversation.Conversation.read_once.Goals as goal

pub returns-in-Some : goal.returns-in-Some
returns-in-Some g c = record {
  goes = λ desk gave.
      c.fed.ensures c.read.new.into c.in-Some.count refl (sight desk (g.L.Link.view c.args.link.now) gave)
      (g.L.Link.view c.read.new.self) c.in-Some.ensures;
}

pub returns-in-NotYet : goal.returns-in-NotYet
returns-in-NotYet g c = record {
  goes = λ desk gave.
      c.waited.ensures.reads c.read.new.into (sight desk (g.L.Link.view c.args.link.now) gave)
      (g.L.Link.view c.read.new.self) c.in-NotYet.ensures;
}

pub returns-in-End : goal.returns-in-End
returns-in-End g c = record {
  goes = λ desk gave.
      c.ended.ensures c.read.new.into (sight desk (g.L.Link.view c.args.link.now) gave)
      (g.L.Link.view c.read.new.self) c.in-End.ensures;
}

pub returns-in-Failed : goal.returns-in-Failed
returns-in-Failed g c = record {
  goes = λ desk gave.
      c.unread.ensures c.read.new.into (sight desk (g.L.Link.view c.args.link.now) gave)
      (g.L.Link.view c.read.new.self) c.in-Failed.ensures;
}
