use Rattle.std.proofs.Common.{◌≡◌, ◌++◌, length, option_copied, sym, ap, ◌∙◌, arith}
use Rattle.std.specs.List.{slice_get}
use Rattle.std.proofs.lemmas.List.{length-map}
use Rattle.kom_types.specs.declared.seats.Seat.{Seat}
use Rattle.kom_types.specs.Sessions.{Session}
use Rattle.conf_calls.proofs.Leaving.{presence, presence-append}
use Rattle.conf_calls.proofs.Pushed.{pushed-found, found-within}
use Rattle.conf_calls.proofs.deletion.push_presence.Goals as goal
use Rattle.conf_calls.proofs.deletion.push_presence.Goals.{in-Some+in_ok-push_left, in_default}

abbrev seat_of : Session → Seat
seat_of = λ row. row.seat

pub loop-place-preserved : goal.loop-place-preserved
loop-place-preserved c =
    let asked = c.args.asked.now in
    let seats = asked.seats in
    let place = c.loop-place.place in
    let told : option_copied c.nth_seat.result ≡ slice_get seats place =
    c.nth_seat.ensures ∙ ap (λ those. slice_get those place) c.sessions-sessions.ensures in
    elim c.match-nth_seat.branch [
      | in-Some+in_ok-push_left w ↦
          pushed-found (presence asked c.args.person) (presence-append asked c.args.person)
          (c.args.effects.now ++ presence asked c.args.person seats) seats place w.in-Some.seat.now
          c.loop-place.effects _ (sym told ∙ ap option_copied w.in-Some.is) c.loop-place.invariant
          (w.effects-is ∙ w.in_ok-push_left.ensures)
      | in_default w ↦
          let rows = c.sessions-sessions.result.now in
          let many : length rows ≡ length seats =
          sym (length-map rows seat_of) ∙ ap length c.sessions-sessions.ensures in
          absurd (found-within seats place
          (omega (arith, many, c.len-place-end.ensures.len, c.loop-place-test.true))
          (sym told ∙ ap option_copied w.in_default.is))
    ]
