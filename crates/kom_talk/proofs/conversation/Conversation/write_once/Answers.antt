use Rattle.std.proofs.Common.{refl}
use Rattle.kom_links.specs.declared.link.Took.TheVariants as took
use Rattle.kom_session.specs.Known.{sight}
use Rattle.kom_session.proofs.Going.{goes_same}
use Rattle.kom_talk.proofs.conversation.Conversation.write_once.Goals as goal

pub returns-then-not-self : goal.returns-then-not-self
returns-then-not-self g c = record {
  goes = λ desk gave. goes_same _;
}

pub returns-then-is_empty : goal.returns-then-is_empty
returns-then-is_empty g c = record {
  goes = λ desk gave. c.rest.ensures (sight desk (g.L.Link.view c.args.link.now) gave);
}

pub returns-in-Some : goal.returns-in-Some
returns-in-Some g c = record {
  goes = λ desk gave.
      c.wrote.ensures (took.Some c.in-Some.count) refl (sight desk (g.L.Link.view c.args.link.now) gave)
      (g.L.Link.view c.write.new.self) (rw c.unwritten-2.ensures at c.in-Some.ensures);
}

pub returns-in-NotYet : goal.returns-in-NotYet
returns-in-NotYet g c = record {
  goes = λ desk gave.
      c.wrote-in-NotYet.ensures took.NotYet refl (sight desk (g.L.Link.view c.args.link.now) gave)
      (g.L.Link.view c.write.new.self) (rw c.unwritten-2.ensures at c.in-NotYet.ensures);
}

pub returns-in-Failed : goal.returns-in-Failed
returns-in-Failed g c = record {
  goes = λ desk gave.
      c.unwritable.ensures (sight desk (g.L.Link.view c.args.link.now) gave)
      (g.L.Link.view c.write.new.self) (rw c.unwritten-2.ensures at c.in-Failed.ensures);
}
