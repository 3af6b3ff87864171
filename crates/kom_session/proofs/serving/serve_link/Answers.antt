use Rattle.kom_session.specs.Known.{sight}
use Rattle.kom_session.specs.Serving.{ServesLink, steps_in}
use Rattle.kom_session.specs.Waits.{NoneWaits}
use Rattle.kom_session.proofs.Asking.{asked_all}
use Rattle.kom_session.proofs.serving.serve_link.Given as given
use Rattle.kom_session.proofs.serving.serve_link.Goals as goal

pub drive-requires-clause-can : goal.drive-requires-clause-can
drive-requires-clause-can g c =
    let start = sight (g.K.Desk.view c.args.desk.now) (g.L.Link.view c.args.link.now)
    (g.C.Clock.gave c.args.clock.now) in (start, c.new-machine.ensures.kept start c.requires.untouched)

pub close-requires-clause-can : goal.close-requires-clause-can
close-requires-clause-can g c =
    let start = sight (g.K.Desk.view c.args.desk.now) (g.L.Link.view c.args.link.now)
    (g.C.Clock.gave c.args.clock.now) in (
      start,
      g.L.Link.view c.drive.new.link,
      c.drive.ensures.goes.kept start (c.new-machine.ensures.kept start c.requires.untouched),
    )

-- all that is told of the link
served : (g : given.Over) (c : goal.After-drop-machine g) →
    ServesLink (sight (g.K.Desk.view c.args.desk.now) (g.L.Link.view c.args.link.now)
    (g.C.Clock.gave c.args.clock.now)) c.close.result
    (sight (g.K.Desk.view c.close.new.desk) (g.L.Link.view c.drive.new.link)
    (g.C.Clock.gave c.close.new.clock))
served g c =
    let start = sight (g.K.Desk.view c.args.desk.now) (g.L.Link.view c.args.link.now)
    (g.C.Clock.gave c.args.clock.now) in
    let goes = c.drive.ensures.goes in
    c.close.ensures.closed start (g.L.Link.view c.drive.new.link)
    (rw (c.faults-faults.ensures, c.faults.ensures) at c.has_risen.ensures)
    (goes.added, goes.mine, goes.timed)
    (goes.kept start (c.new-machine.ensures.kept start c.requires.untouched))

pub returns-clause-talk : goal.returns-clause-talk
returns-clause-talk g c = (served g c).talk

pub returns-clause-session : goal.returns-clause-session
returns-clause-session g c = (served g c).session

pub returns-clause-waits : goal.returns-clause-waits
returns-clause-waits g c =
    let waits = (served g c).waits in
    let more = c.close.ensures.answers in (
      waits.0,
      waits.1,
      waits.2,
      waits.3,
      asked_all
          (NoneWaits (steps_in (sight (g.K.Desk.view c.close.new.desk)
          (g.L.Link.view c.drive.new.link) (g.C.Clock.gave c.close.new.clock))
          c.close.result.session waits.0))
          (g.L.Link.view c.args.link.now).reads (g.L.Link.view c.drive.new.link).reads
          (g.K.Desk.view c.args.desk.now).answers (g.K.Desk.view c.drive.new.desk).answers
          (g.K.Desk.view c.close.new.desk).answers waits.1 more.0 c.requires.untouched.no_read
          c.drive.ensures.asked more.1 waits.3 waits.4,
    )

pub returns-clause-cause : goal.returns-clause-cause
returns-clause-cause g c = (served g c).cause

pub returns-clause-left : goal.returns-clause-left
returns-clause-left g c = (served g c).left

pub returns-clause-others : goal.returns-clause-others
returns-clause-others g c = (served g c).others
