use Rattle.std.proofs.Common.{refl, sym}
use Rattle.kom_session.specs.Known.{sight}
use Rattle.kom_session.proofs.Asking.{asked_more}
use Rattle.kom_session.proofs.Going.{goes_same}
use Rattle.kom_session.proofs.serving.step.Goals as goal

pub returns-in-Read-clause-goes : goal.returns-in-Read-clause-goes
returns-in-Read-clause-goes g c = c.read.ensures.goes (g.C.Clock.gave c.args.clock.now)

pub returns-in-Write-clause-goes : goal.returns-in-Write-clause-goes
returns-in-Write-clause-goes g c = c.write.ensures.goes (g.C.Clock.gave c.args.clock.now)

pub returns-in-Write-clause-asked : goal.returns-in-Write-clause-asked
returns-in-Write-clause-asked g c =
    asked_more (c.write.ensures.goes (g.C.Clock.gave c.args.clock.now)) c.write.ensures.reads

pub returns-in-Act-clause-goes : goal.returns-in-Act-clause-goes
returns-in-Act-clause-goes g c =
    c.act.ensures.made (g.L.Link.view c.args.link.now) (sym c.host.ensures)

pub returns-in-Act-clause-asked : goal.returns-in-Act-clause-asked
returns-in-Act-clause-asked g c =
    asked_more (c.act.ensures.made (g.L.Link.view c.args.link.now) (sym c.host.ensures)) refl

pub returns-in-Flush-clause-goes : goal.returns-in-Flush-clause-goes
returns-in-Flush-clause-goes g c =
    c.flushed.ensures
    (sight (g.K.Desk.view c.args.desk.now) (g.L.Link.view c.args.link.now)
    (g.C.Clock.gave c.args.clock.now)) c.now.result (g.K.Desk.view c.flush-answer.new.self)
    (g.C.Clock.gave c.now.new.self) c.flush-answer.ensures.flushes c.now.ensures.gains

pub returns-in-Drain-clause-goes : goal.returns-in-Drain-clause-goes
returns-in-Drain-clause-goes g c =
    let link = g.L.Link.view c.args.link.now in c.drain.ensures.made link.host link refl

pub returns-in-Drain-clause-asked : goal.returns-in-Drain-clause-asked
returns-in-Drain-clause-asked g c =
    let link = g.L.Link.view c.args.link.now in
    asked_more (c.drain.ensures.made link.host link refl) refl

pub returns-in-End-clause-goes : goal.returns-in-End-clause-goes
returns-in-End-clause-goes g c = goes_same _
