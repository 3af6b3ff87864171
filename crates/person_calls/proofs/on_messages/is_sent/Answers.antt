use Rattle.std.proofs.Common.{◌≡◌, length, filter, option_copied, sym, ap, ◌∙◌, arith}
use Rattle.std.specs.List.{slice_get}
use Rattle.std.proofs.lemmas.List.{length-map}
use Rattle.kom_types.specs.declared.seats.Seat.{Seat}
use Rattle.kom_types.specs.Sessions.{Session}
use Rattle.kom_model.specs.Sending.{accepts}
use Rattle.person_calls.proofs.Sent.{accepting, is_heard, sent-here, unheard-more, unsent-past, unsent-all}
use Rattle.person_calls.proofs.on_messages.is_sent.Goals as goal

abbrev seat_of : Session → Seat
seat_of = λ row. row.seat

pub returns-in_default : goal.returns-in_default
returns-in_default c =
    let asked = c.args.asked.now in
    let place = c.loop-place.place in
    let told : option_copied c.nth_accepting.result ≡ slice_get (accepting asked) place =
    c.nth_accepting.ensures ∙ ap (λ seats. slice_get (filter (accepts 12) seats) place) c.sessions-sessions.ensures in
    unsent-past asked c.args.recipient place c.loop-place.invariant (sym told ∙ ap option_copied c.in_default.is)

pub returns-then-is_heard : goal.returns-then-is_heard
returns-then-is_heard c =
    let asked = c.args.asked.now in
    let place = c.loop-place.place in
    let told : option_copied c.nth_accepting.result ≡ slice_get (accepting asked) place =
    c.nth_accepting.ensures ∙ ap (λ seats. slice_get (filter (accepts 12) seats) place) c.sessions-sessions.ensures in
    sent-here asked c.args.recipient place c.in-Some.seat.now (sym told ∙ ap option_copied c.in-Some.is)
    (ap (λ db. is_heard db c.args.recipient c.in-Some.seat.now) (sym c.rows-rows.ensures)
    ∙ sym c.is_heard.ensures ∙ c.if-is_heard.true)

pub loop-place-preserved : goal.loop-place-preserved
loop-place-preserved c =
    let asked = c.args.asked.now in
    let place = c.loop-place.place in
    let told : option_copied c.nth_accepting.result ≡ slice_get (accepting asked) place =
    c.nth_accepting.ensures ∙ ap (λ seats. slice_get (filter (accepts 12) seats) place) c.sessions-sessions.ensures in
    unheard-more asked c.args.recipient place c.in-Some.seat.now (sym told ∙ ap option_copied c.in-Some.is)
    (ap (λ db. is_heard db c.args.recipient c.in-Some.seat.now) (sym c.rows-rows.ensures)
    ∙ sym c.is_heard.ensures ∙ c.if-is_heard.false)
    c.loop-place.invariant

pub returns : goal.returns
returns c =
    let asked = c.args.asked.now in
    let rows = c.sessions-sessions.result.now in
    let many : length rows ≡ length asked.seats =
    sym (length-map rows seat_of) ∙ ap length c.sessions-sessions.ensures in
    unsent-all asked c.args.recipient c.loop-place.place c.loop-place.invariant
    (omega (arith, many, c.len-place-end.ensures.len, c.loop-place-test.false))
