use Rattle.std.proofs.Common.{◌≡◌, length, option_copied, sym, ap, ◌∙◌, arith}
use Rattle.std.specs.List.{slice_get, filter_map}
use Rattle.std.proofs.lemmas.List.{length-map}
use Rattle.std.proofs.lemmas.List.Elements.{filter_map-append}
use Rattle.kom_types.specs.declared.seats.Seat.{Seat}
use Rattle.kom_types.specs.Sessions.{Session}
use Rattle.kom_model.specs.calls.Conferences.{left_by_deletion}
use Rattle.conf_calls.proofs.Pushed.{pushed-found, found-within}
use Rattle.conf_calls.proofs.deletion.left_by_deletion.Goals as goal
use Rattle.conf_calls.proofs.deletion.left_by_deletion.Goals.{in-Some+in_ok-push_change, in_default}

abbrev seat_of : Session → Seat
seat_of = λ row. row.seat

pub loop-place-preserved : goal.loop-place-preserved
loop-place-preserved c =
    let seats = c.args.asked.now.seats in
    let place = c.loop-place.place in
    let becomes = left_by_deletion c.args.number in
    let told : option_copied c.nth_seat.result ≡ slice_get seats place =
    c.nth_seat.ensures ∙ ap (λ those. slice_get those place) c.sessions-sessions.ensures in
    elim c.match-nth_seat.branch [
      | in-Some+in_ok-push_change w ↦
          pushed-found (filter_map becomes) (filter_map-append becomes) (filter_map becomes seats) seats place
          w.in-Some.seat.now c.loop-place.changes _ (sym told ∙ ap option_copied w.in-Some.is) c.loop-place.invariant
          (w.changes-is ∙ w.in_ok-push_change.ensures)
      | in_default w ↦
          let rows = c.sessions-sessions.result.now in
          let many : length rows ≡ length seats =
          sym (length-map rows seat_of) ∙ ap length c.sessions-sessions.ensures in
          absurd (found-within seats place
          (omega (arith, many, c.len-place-end.ensures.len, c.loop-place-test.true))
          (sym told ∙ ap option_copied w.in_default.is))
    ]
