use Rattle.std.proofs.Common.{◌≡◌, ◌++◌, ◌∙◌, Some, None, ap, sym}
use Rattle.std.specs.Option.{option_copied}
use Rattle.kom_model.specs.Messages.{logout}
use Rattle.kom_model.specs.calls.Guards.{seat_at}
use Rattle.async_fanout.specs.Delivered.{all_brought, as_list}
use Rattle.async_fanout.proofs.Brought.{none, one, out-absent, out-there}
use Rattle.async_fanout.proofs.messages.push_logout.Goals as goal

pub returns-in-None : goal.returns-in-None
returns-in-None c =
    let absent : seat_at c.args.asked.now.seats c.in-Person.session ≡ None =
    sym (rw c.sessions.ensures at c.seat.ensures) ∙ ap option_copied c.in-None.is in
    sym (ap (λ found. c.args.sent.now.items ++ all_brought c.args.asked.now (as_list found))
    (out-absent c.args.asked.now c.args.change.now c.in-Person.session c.in-Person.person c.in-Person.field-2
    c.in-Person.is absent)
    ∙ none c.args.asked.now c.args.sent.now.items)

pub returns-else-person-ne0 : goal.returns-else-person-ne0
returns-else-person-ne0 c =
    let there : seat_at c.args.asked.now.seats c.in-Person.session ≡ Some c.in-Some.seat.now =
    sym (rw c.sessions.ensures at c.seat.ensures) ∙ ap option_copied c.in-Some.is in
    rw (
      out-there c.args.asked.now c.args.change.now c.in-Person.session c.in-Person.person c.in-Person.field-2
          c.in-Some.seat.now c.in-Person.is there c.if-person-ne0.false,
      one c.args.asked.now (logout c.in-Some.seat.now.person c.in-Person.session),
    ) c.deliver.ensures
