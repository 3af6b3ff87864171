-- What was kept is kept, and for each read that found nothing the desk was asked.
use Rattle.kom_session.specs.Kept.{Goes, IsAskedFor}
use Rattle.kom_session.specs.Known.{known_by, state, sight}
use Rattle.kom_session.proofs.serving.drive.Given as goal

abbrev pub invariant-loop : goal.invariant-loop
invariant-loop g l =
    let desk = g.K.Desk.view l.fn.desk in
    let link = g.L.Link.view l.fn.link in
    let desk' = g.K.Desk.view l.desk in
    let link' = g.L.Link.view l.link in
    record {
      can : (goal.iterator-loop g).can_next l.iterator';
      finite : (goal.iterator-loop g).is_finite l.iterator';
      goes : Goes (state (known_by l.fn.machine) (sight desk link (g.C.Clock.gave l.fn.clock)))
          (state (known_by l.machine) (sight desk' link' (g.C.Clock.gave l.clock)));
      asked : IsAskedFor link.reads desk.answers link'.reads desk'.answers;
      on : g.K.Desk.goes_on l.fn.desk l.desk;
    }
