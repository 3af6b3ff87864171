use Rattle.kom_client.proofs.Steps.{shown_passes, unshown_stops}
use Rattle.kom_client.proofs.saying.show.Goals as goal

pub returns-in-Ok : goal.returns-in-Ok
returns-in-Ok g c = λ splitting fault link.
    shown_passes
    (record { splitting = splitting; fault = fault; link = link; sink = g.S.Sink.view c.args.out.now })
    c.in-Ok.ensures

pub returns-in-Err : goal.returns-in-Err
returns-in-Err g c = λ splitting fault link.
    unshown_stops
    (record { splitting = splitting; fault = fault; link = link; sink = g.S.Sink.view c.args.out.now })
    c.in-Err.ensures
