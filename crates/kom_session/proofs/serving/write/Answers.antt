use Rattle.std.proofs.Common.{refl}
use Rattle.kom_links.specs.declared.link.Took.TheVariants as took
use Rattle.kom_session.specs.Known.{sight}
use Rattle.kom_session.proofs.serving.write.Goals as goal

pub returns-then-is_empty-clause-goes : goal.returns-then-is_empty-clause-goes
returns-then-is_empty-clause-goes g c = λ gave.
    c.rest.ensures (sight (g.K.Desk.view c.args.desk.now) (g.L.Link.view c.args.link.now) gave)

pub returns-in-Some-clause-goes : goal.returns-in-Some-clause-goes
returns-in-Some-clause-goes g c = λ gave.
    c.wrote.ensures (took.Some c.in-Some.count) refl
    (sight (g.K.Desk.view c.args.desk.now) (g.L.Link.view c.args.link.now) gave)
    (g.L.Link.view c.write.new.self) (rw c.unwritten-2.ensures at c.in-Some.ensures)

pub returns-in-NotYet-clause-goes : goal.returns-in-NotYet-clause-goes
returns-in-NotYet-clause-goes g c = λ gave.
    c.wait_to_write.ensures.goes (g.L.Link.view c.args.link.now) (g.L.Link.view c.write.new.self) gave
    (rw c.unwritten-2.ensures at c.in-NotYet.ensures)

pub returns-in-Failed-clause-goes : goal.returns-in-Failed-clause-goes
returns-in-Failed-clause-goes g c = λ gave.
    c.unwritable.ensures
    (sight (g.K.Desk.view c.args.desk.now) (g.L.Link.view c.args.link.now) gave)
    (g.L.Link.view c.write.new.self) (rw c.unwritten-2.ensures at c.in-Failed.ensures)
