use Rattle.std.proofs.Common.{◌≡◌, ◌+◌, refl, arith}
use Rattle.kom_links.specs.Answers.{asks_in}
use Rattle.kom_session.specs.Known.{sight}
use Rattle.kom_session.proofs.Asking.{asked_read}
use Rattle.kom_session.proofs.Going.{goes_trans}
use Rattle.kom_session.proofs.serving.read.Goals as goal

pub returns-in-Some-clause-goes : goal.returns-in-Some-clause-goes
returns-in-Some-clause-goes g c = λ gave.
    c.fed.ensures c.read.new.into c.in-Some.count refl
    (sight (g.K.Desk.view c.args.desk.now) (g.L.Link.view c.args.link.now) gave)
    (g.L.Link.view c.read.new.self) c.in-Some.ensures

pub returns-in-NotYet-clause-goes : goal.returns-in-NotYet-clause-goes
returns-in-NotYet-clause-goes g c = λ gave. goes_trans
    (c.waited.ensures.reads c.read.new.into
    (sight (g.K.Desk.view c.args.desk.now) (g.L.Link.view c.args.link.now) gave)
    (g.L.Link.view c.read.new.self) c.in-NotYet.ensures)
    (c.ask.ensures.goes (g.L.Link.view c.read.new.self) gave)

pub returns-in-End-clause-goes : goal.returns-in-End-clause-goes
returns-in-End-clause-goes g c = λ gave.
    c.ended.ensures c.read.new.into
    (sight (g.K.Desk.view c.args.desk.now) (g.L.Link.view c.args.link.now) gave)
    (g.L.Link.view c.read.new.self) c.in-End.ensures

pub returns-in-Failed-clause-goes : goal.returns-in-Failed-clause-goes
returns-in-Failed-clause-goes g c = λ gave.
    c.unread.ensures c.read.new.into
    (sight (g.K.Desk.view c.args.desk.now) (g.L.Link.view c.args.link.now) gave)
    (g.L.Link.view c.read.new.self) c.in-Failed.ensures

pub returns-in-Some-clause-asked : goal.returns-in-Some-clause-asked
returns-in-Some-clause-asked g c =
    let answers = (g.K.Desk.view c.args.desk.now).answers in
    asked_read answers answers c.in-Some.ensures (omega arith) (λ e. absurd (cc (e)))

pub returns-in-NotYet-clause-asked : goal.returns-in-NotYet-clause-asked
returns-in-NotYet-clause-asked g c =
    let old = (g.K.Desk.view c.args.desk.now).answers in
    let new = (g.K.Desk.view c.ask.new.desk).answers in
    let once : asks_in new ≡ asks_in old + 1 = c.ask.ensures.once in
    asked_read old new c.in-NotYet.ensures (omega arith) (λ e. omega arith)

pub returns-in-End-clause-asked : goal.returns-in-End-clause-asked
returns-in-End-clause-asked g c =
    let answers = (g.K.Desk.view c.args.desk.now).answers in
    asked_read answers answers c.in-End.ensures (omega arith) (λ e. absurd (cc (e)))

pub returns-in-Failed-clause-asked : goal.returns-in-Failed-clause-asked
returns-in-Failed-clause-asked g c =
    let answers = (g.K.Desk.view c.args.desk.now).answers in
    asked_read answers answers c.in-Failed.ensures (omega arith) (λ e. absurd (cc (e)))
