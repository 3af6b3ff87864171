use Rattle.std.proofs.Common.{refl, [], ◌∙◌}
use Rattle.std.proofs.lemmas.Result.{err_from_is_err_and}
use Rattle.kom_client.specs.Talking.{Counts}
use Rattle.kom_client.specs.Talkers.{world}
use Rattle.kom_client.proofs.Talks.{ungreeted, unanswered, answered, no_line_first}
use Rattle.kom_client.proofs.talker.Talker.greet.Goals as goal

pub returns-in_err-send-clause-greets : goal.returns-in_err-send-clause-greets
returns-in_err-send-clause-greets g c = λ sink shown.
    let link = g.L.Link.view c.args.link.now in
    let start : Counts = record { link = link.faults; sink = sink.faults } in
    let p = err_from_is_err_and c.from_residual-in_err-send.result c.from_residual-in_err-send.ensures.1 in
    rw (p.1, p.2)
    (ungreeted c.args.user.now c.bytes.result.now start link
    (world c.args.self.now (g.L.Link.view c.send.new.link) sink) c.in_err-send.field-0.0
    (c.bytes.ensures ∙ c.in_ok-put_greeting.ensures) c.requires.untouched shown refl c.in_err-send.ensures)

pub returns-in_err-hear-clause-greets : goal.returns-in_err-hear-clause-greets
returns-in_err-hear-clause-greets g c = λ sink shown.
    let link = g.L.Link.view c.args.link.now in
    let start : Counts = record { link = link.faults; sink = sink.faults } in
    let p = err_from_is_err_and c.from_residual-in_err-hear.result c.from_residual-in_err-hear.ensures.1 in
    rw (p.1, p.2)
    (unanswered c.in_err-hear.field-0.0 c.args.user.now c.bytes.result.now start link
    (g.L.Link.view c.send.new.link)
    (world (record c.args.self.now { hearing = c.hear.new.self }) (g.L.Link.view c.hear.new.link) sink)
    (c.bytes.ensures ∙ c.in_ok-put_greeting.ensures) c.requires.untouched shown refl c.in_ok-send.ensures
    (c.in_err-hear.ensures [] [] c.requires.nothing))

pub returns-in-Hello-clause-greets : goal.returns-in-Hello-clause-greets
returns-in-Hello-clause-greets g c = λ sink shown.
    let link = g.L.Link.view c.args.link.now in
    let start : Counts = record { link = link.faults; sink = sink.faults } in
    answered c.args.user.now c.bytes.result.now c.in-Hello.field-0 start link
    (g.L.Link.view c.send.new.link) c.args.self.now.hearing.splitter c.args.self.now.hearing.fault
    (world (record c.args.self.now { hearing = c.hear.new.self }) (g.L.Link.view c.hear.new.link) sink)
    (c.bytes.ensures ∙ c.in_ok-put_greeting.ensures) c.requires.untouched shown refl refl c.in_ok-send.ensures
    c.requires.nothing (rw c.in-Hello.is at c.in_ok-hear.ensures)

pub returns-clause-greets : goal.returns-clause-greets
returns-clause-greets g c = λ sink shown.
    absurd (no_line_first c.in-Line.field-0 (g.L.Link.view c.send.new.link) (g.L.Link.view c.hear.new.link)
    c.args.self.now.hearing.splitter c.hear.new.self.splitter c.args.self.now.hearing.fault c.hear.new.self.fault
    c.requires.nothing (rw c.in-Line.is at c.in_ok-hear.ensures))
