use Rattle.std.proofs.Common.{refl}
use Rattle.std.proofs.lemmas.Result.{err_from_is_err_and}
use Rattle.kom_client.specs.declared.talk_end.TalkEnd.TheVariants as end
use Rattle.kom_client.specs.Talking.{await_reply}
use Rattle.kom_client.specs.Talkers.{world}
use Rattle.kom_client.proofs.Steps.{line_passes, line_stops, hello_stops}
use Rattle.kom_client.proofs.talker.Talker.next_line.Goals as goal

pub returns-in_err-line-clause-hears : goal.returns-in_err-line-clause-hears
returns-in_err-line-clause-hears g c = λ sink.
    let p = err_from_is_err_and c.from_residual.result c.from_residual.ensures.1 in
    rw (p.1, p.2)
    (line_stops (world c.args.self.now (g.L.Link.view c.args.link.now) sink)
    (world (record c.args.self.now { hearing = c.hear.new.self }) (g.L.Link.view c.hear.new.link) sink)
    c.in_err-line.field-0.0 c.in_err-line.ensures refl)

pub returns-in-Line-clause-hears : goal.returns-in-Line-clause-hears
returns-in-Line-clause-hears g c = λ sink.
    line_passes (world c.args.self.now (g.L.Link.view c.args.link.now) sink)
    (world (record c.args.self.now { hearing = c.hear.new.self }) (g.L.Link.view c.hear.new.link) sink) c.in-Line.line
    (rw c.in-Line.is at c.in_ok-line.ensures) refl

pub returns-clause-hears : goal.returns-clause-hears
returns-clause-hears g c = λ sink reference.
    hello_stops (world c.args.self.now (g.L.Link.view c.args.link.now) sink)
    (world (record c.args.self.now { hearing = c.hear.new.self }) (g.L.Link.view c.hear.new.link) sink)
    (await_reply reference) (end.Broken 0) c.in-Hello.field-0 (rw c.in-Hello.is at c.in_ok-line.ensures)
