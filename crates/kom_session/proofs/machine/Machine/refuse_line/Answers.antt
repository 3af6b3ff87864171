use Rattle.std.proofs.Common.{◌≡◌, None, refl}
use Rattle.kom_types.specs.Reading.{reading_of}
use Rattle.kom_session.proofs.Acted.{line_faulty, line_over}
use Rattle.kom_session.proofs.Leading.{leads_same, leads_from}
use Rattle.kom_session.proofs.machine.Machine.refuse_line.Goals as goal

pub returns-in-Unknown-clause-taken : goal.returns-in-Unknown-clause-taken
returns-in-Unknown-clause-taken g c =
    c.call.ensures.taken c.args.line.now (rw c.in-Unknown.is at c.requires.reading)

pub returns-in-BadBool-clause-taken : goal.returns-in-BadBool-clause-taken
returns-in-BadBool-clause-taken g c =
    c.call-in-BadBool.ensures.taken c.args.line.now (rw c.in-BadBool.is at c.requires.reading)

pub returns-in-LongArray-clause-taken : goal.returns-in-LongArray-clause-taken
returns-in-LongArray-clause-taken g c =
    c.call-in-LongArray.ensures.taken c.args.line.now (rw c.in-LongArray.is at c.requires.reading)

pub returns-in-Malformed-clause-taken : goal.returns-in-Malformed-clause-taken
returns-in-Malformed-clause-taken g c = λ link.
    let unread : reading_of c.args.line.now.tokens ≡ None = rw c.in-Malformed.is at c.requires.reading in
    leads_from
    (λ start t. rw c.end.ensures (line_faulty c.args.line.now t unread))
    (c.break_at.ensures.faulty link)

pub returns-in-Memory-clause-taken : goal.returns-in-Memory-clause-taken
returns-in-Memory-clause-taken g c = λ link.
    leads_same (λ some. refl) (λ start t. line_over c.args.line.now t)
