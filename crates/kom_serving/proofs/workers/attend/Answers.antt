use Rattle.std.proofs.Common.{rules}
use Rattle.hall_desk.specs.Going.{goes_on_further}
use Rattle.kom_serving.proofs.Lifting.{serves_same}
use Rattle.kom_serving.proofs.workers.attend.Goals as goal

pub returns-then-is_stopped-clause-serves : goal.returns-then-is_stopped-clause-serves
returns-then-is_stopped-clause-serves g c =
    c.is_stopped.ensures.serves (g.G.Gate.view c.next-in-loop.new.self).returned (g.C.Clock.gave c.loop.clock)
    (serves_same g.G.Link.Link.view c.loop.desk.start c.loop.desk.pass (g.G.Gate.view c.loop.gate).returned
    (g.G.Gate.view c.next-in-loop.new.self).returned (g.C.Clock.gave c.loop.clock)
    c.next-in-loop.ensures.admits.returned c.loop.invariant.serves)

pub loop-preserved : goal.loop-preserved
loop-preserved g c = record {
  on = goes_on_further c.args.desk.now c.loop.desk c.is_stopped.new.desk c.loop.invariant.on c.is_stopped.ensures.on;
  serves = c.is_stopped.ensures.serves (g.G.Gate.view c.next-in-loop.new.self).returned (g.C.Clock.gave c.loop.clock)
      (serves_same g.G.Link.Link.view c.loop.desk.start c.loop.desk.pass (g.G.Gate.view c.loop.gate).returned
      (g.G.Gate.view c.next-in-loop.new.self).returned (g.C.Clock.gave c.loop.clock)
      c.next-in-loop.ensures.admits.returned c.loop.invariant.serves);
  all_back = search rules;
  first = c.loop.invariant.first;
}
