use Rattle.hall_desk.specs.Desks.{GoesOn}
use Rattle.kom_serving.specs.Runs.{AllGivenBack}
use Rattle.kom_serving.specs.Serving.{Serves, KeepsFirst}
use Rattle.kom_serving.proofs.workers.attend.Given as goal

abbrev pub invariant-loop : goal.invariant-loop
invariant-loop g l = record {
  on : GoesOn l.fn.desk l.desk;
  serves : Serves g.G.Link.Link.view l.desk.start l.desk.pass (g.G.Gate.view l.gate).returned (g.C.Clock.gave l.clock);
  all_back : AllGivenBack (g.G.Gate.view l.gate);
  first : KeepsFirst (g.C.Clock.gave l.fn.clock) (g.C.Clock.gave l.clock);
}
