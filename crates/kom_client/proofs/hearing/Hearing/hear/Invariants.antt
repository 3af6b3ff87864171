-- More was heard, and no unit taken.
use Rattle.std.proofs.Common.{Ok, Result}
use Rattle.kom_client.specs.declared.talk_end.TalkEnd.{TalkEnd}
use Rattle.kom_client.specs.Talking.{HearsMore}
use Rattle.kom_client.proofs.hearing.Hearing.hear.Given as goal

abbrev pub invariant-loop : goal.invariant-loop
invariant-loop g l = record {
  can : (goal.iterator-loop g).can_next l.iterator';
  finite : (goal.iterator-loop g).is_finite l.iterator';
  hears : let one : Result (Unit {0}) TalkEnd = Ok tt in
      HearsMore one l.fn.self.splitter l.fn.self.fault (g.L.Link.view l.fn.link) l.self.splitter l.self.fault
      (g.L.Link.view l.link);
}
