use Rattle.std.proofs.Common.{inl, inr}
use Rattle.kom_sweep.specs.Acting.{Seen, sight}
use Rattle.kom_sweep.specs.Sweeps.{user, host}
use Rattle.kom_sweep.proofs.Ending.{not_connected, swept}
use Rattle.kom_sweep.proofs.Opening.{open_connected}
use Rattle.kom_sweep.proofs.sweeping.sweep.Goals as goal

pub returns-in-Err-clause-sweeps : goal.returns-in-Err-clause-sweeps
returns-in-Err-clause-sweeps g c =
    let x : Seen = sight (g.K.Desk.view c.args.desk.now) (g.C.Clock.gave c.args.clock.now) 1 in (
      c.now-moment.result,
      c.now-moment.ensures.first,
      inl (not_connected c.now-moment.result x _ _ c.in-Err.fault _ c.now-moment.ensures.gains
          c.in-Err.ensures.connects c.at.ensures),
    )

pub returns-in-Ok-clause-sweeps : goal.returns-in-Ok-clause-sweeps
returns-in-Ok-clause-sweeps g c =
    let x : Seen = sight (g.K.Desk.view c.args.desk.now) (g.C.Clock.gave c.args.clock.now) 1 in (
      c.now-moment.result,
      c.now-moment.ensures.first,
      inr (
        c.in-Ok.session,
        swept c.now-moment.result c.in-Ok.session c.args.person c.args.password.now x
            (g.K.Desk.view c.connect.new.self) (g.K.Desk.view c.work-outcome.new.desk)
            (g.K.Desk.view c.close-closed.new.self)
            (g.C.Clock.gave c.now-moment.new.self) (g.C.Clock.gave c.work-outcome.new.clock)
            (g.C.Clock.gave c.now.new.self) c.now.result c.work-outcome.result c.close-closed.result c.then.result
            c.now-moment.ensures.gains c.in-Ok.ensures.connects c.work-outcome.ensures.ok c.work-outcome.ensures.err
            c.now.ensures.gains c.close-closed.ensures.closes c.then.ensures,
      ),
    )

pub returns-in-Err-clause-on : goal.returns-in-Err-clause-on
returns-in-Err-clause-on g c = c.connect.ensures.on

pub returns-in-Ok-clause-on : goal.returns-in-Ok-clause-on
returns-in-Ok-clause-on g c =
    g.met.K.Desk.goes_on_further _ _ _ (g.met.K.Desk.goes_on_further _ _ _ c.connect.ensures.on
    c.work-outcome.ensures.on) c.close-closed.ensures.on

pub work-outcome-requires : goal.work-outcome-requires
work-outcome-requires g c =
    open_connected c.in-Ok.session c.now-moment.result user host (g.K.Desk.view c.args.desk.now)
    (g.K.Desk.view c.connect.new.self) c.in-Ok.ensures.connects
