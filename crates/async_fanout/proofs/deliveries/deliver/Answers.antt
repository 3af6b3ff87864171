use Rattle.std.proofs.Common.{◌≡◌, ◌≤◌, ◌++◌, ◌∙◌, List, Some, None, length, sym, ap, arith}
use Rattle.std.specs.List.{filter, slice_get}
use Rattle.std.specs.Option.{option_copied}
use Rattle.std.proofs.lemmas.List.{length-map}
use Rattle.kom_types.specs.declared.seats.Seat.{Seat}
use Rattle.kom_types.specs.Sessions.{Session}
use Rattle.kom_model.specs.Sending.{accepts}
use Rattle.async_fanout.specs.Delivered.{brings}
use Rattle.async_fanout.proofs.Brought.{delivered-accepting, within-filter}
use Rattle.async_fanout.proofs.Pushing.{absent_past, pushed, pushed_all}
use Rattle.async_fanout.proofs.deliveries.deliver.Goals as goal

pub returns-in_default : goal.returns-in_default
returns-in_default g c =
    let sending = g.M.Tells.sending c.args.message.now in
    let seats : List Seat = filter (accepts sending.number) c.args.asked.now.seats in
    let none : slice_get seats c.loop-place.place ≡ None =
    sym (rw (c.number-number.ensures.number, c.sessions-in-loop-place.ensures) at c.nth_accepting.ensures)
    ∙ ap option_copied c.in_default.is in
    pushed_all (brings c.args.asked.now.db sending) c.args.into.now.items seats c.loop-place.place
    c.loop-place.into.items (absent_past seats c.loop-place.place none) c.loop-place.invariant
    ∙ ap (λ list. c.args.into.now.items ++ list)
    (delivered-accepting c.args.asked.now.db sending c.args.asked.now.seats)

pub loop-place-preserved : goal.loop-place-preserved
loop-place-preserved g c =
    let sending = g.M.Tells.sending c.args.message.now in
    let seats : List Seat = filter (accepts sending.number) c.args.asked.now.seats in
    let there : slice_get seats c.loop-place.place ≡ Some c.in-Some.seat.now =
    sym (rw (c.number-number.ensures.number, c.sessions-in-loop-place.ensures) at c.nth_accepting.ensures)
    ∙ ap option_copied c.in-Some.is in
    pushed (brings c.args.asked.now.db sending) c.args.into.now.items seats c.loop-place.place c.in-Some.seat.now
    c.loop-place.into.items _ there c.loop-place.invariant c.in_ok-deliver_to.ensures

pub returns : goal.returns
returns g c =
    let sending = g.M.Tells.sending c.args.message.now in
    let seats : List Seat = filter (accepts sending.number) c.args.asked.now.seats in
    let within : length seats ≤ length c.args.asked.now.seats =
    within-filter (accepts sending.number) c.args.asked.now.seats in
    let all : length c.args.asked.now.seats ≡ length c.sessions.result.now =
    ap length (sym c.sessions.ensures) ∙ length-map c.sessions.result.now (λ (row : Session). row.seat) in
    let past : length seats ≤ c.loop-place.place = omega (arith, within, all, c.len-place-end.ensures.len) in
    pushed_all (brings c.args.asked.now.db sending) c.args.into.now.items seats c.loop-place.place
    c.loop-place.into.items past c.loop-place.invariant
    ∙ ap (λ list. c.args.into.now.items ++ list)
    (delivered-accepting c.args.asked.now.db sending c.args.asked.now.seats)
