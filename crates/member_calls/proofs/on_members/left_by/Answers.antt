use Rattle.std.proofs.Common.{◌≡◌, [], length, Some, option_copied, sym, ap, ◌∙◌, arith}
use Rattle.std.specs.List.{slice_get}
use Rattle.std.proofs.lemmas.List.{length-map}
use Rattle.std.proofs.lemmas.Option.{slice_get_within, get_or_from_slice_get}
use Rattle.kom_types.specs.declared.seats.Seat.{Seat}
use Rattle.kom_types.specs.declared.session_changes.SessionChange.{SessionChange}
use Rattle.kom_types.specs.declared.session_changes.SessionChange.TheVariants as change
use Rattle.kom_types.specs.Sessions.{Session}
use Rattle.kom_model.specs.calls.Memberships.{is_in_conference}
use Rattle.kom_state.proofs.Pushing.{pushed-kept, pushed-left, pushed-past}
use Rattle.member_calls.proofs.on_members.left_by.Goals as goal
use Rattle.member_calls.proofs.on_members.left_by.Goals.{in-Some+then-is_in_conference+in_ok-push}
use Rattle.member_calls.proofs.on_members.left_by.Goals.{in-Some+else-is_in_conference, in_default}

abbrev make : Seat → SessionChange
make = λ seat. change.Working seat.number 0

abbrev seat_of : Session → Seat
seat_of = λ row. row.seat

pub loop-place-preserved : goal.loop-place-preserved
loop-place-preserved c =
    let seats = c.args.asked.now.seats in
    let place = c.loop-place.place in
    let test = is_in_conference c.args.person c.args.conference in
    let told : option_copied c.nth_seat.result ≡ slice_get seats place =
    c.nth_seat.ensures ∙ ap (λ those. slice_get those place) c.sessions-sessions.ensures in
    elim c.match-nth_seat.branch [
      | in-Some+then-is_in_conference+in_ok-push w ↦
          let seat = w.in-Some.seat.now in
          let here : slice_get seats place ≡ Some seat = sym told ∙ ap option_copied w.in-Some.is in
          pushed-kept test make [] seats place seat (slice_get_within seats place seat here)
          (sym (get_or_from_slice_get seats place seat seat here))
          (sym w.is_in_conference.ensures ∙ w.if-is_in_conference.true) c.loop-place.changes _ c.loop-place.invariant
          (w.changes-is ∙ w.in_ok-push.ensures.ok)
      | in-Some+else-is_in_conference w ↦
          let seat = w.in-Some.seat.now in
          let here : slice_get seats place ≡ Some seat = sym told ∙ ap option_copied w.in-Some.is in
          w.changes-is
          ∙ pushed-left test make [] seats place seat (slice_get_within seats place seat here)
          (sym (get_or_from_slice_get seats place seat seat here))
          (sym w.is_in_conference.ensures ∙ w.if-is_in_conference.false) c.loop-place.changes c.loop-place.invariant
      | in_default w ↦
          let rows = c.sessions-sessions.result.now in
          let many : length rows ≡ length seats =
          sym (length-map rows seat_of) ∙ ap length c.sessions-sessions.ensures in
          absurd (pushed-past make [] seats place
          (omega (arith, many, c.len-place-end.ensures.len, c.loop-place-test.true))
          (sym told ∙ ap option_copied w.in_default.is))
    ]
