use Rattle.std.proofs.Common.{◌≡◌, Bool, [], ◌∷◌, ◌++◌, length, map, filter, Some, option_copied, sym, ap, ◌∙◌, arith}
use Rattle.std.specs.List.{slice_get}
use Rattle.std.proofs.lemmas.List.{length-map, take_all}
use Rattle.std.proofs.lemmas.Option.{slice_get_within, get_or_from_slice_get}
use Rattle.kom_types.specs.declared.seats.Seat.{Seat}
use Rattle.kom_types.specs.Sessions.{Session}
use Rattle.kom_model.specs.calls.Sessions.{is_asked_for, dynamic_of}
use Rattle.kom_state.proofs.Pushing.{pushed-kept, pushed-left, pushed-past}
use Rattle.query_calls.proofs.on_sessions.dynamic_sessions.Goals as goal
use Rattle.query_calls.proofs.on_sessions.dynamic_sessions.Goals.{in-Some+then-is_asked_for+in_ok-dynamic_of+in_ok-push}
use Rattle.query_calls.proofs.on_sessions.dynamic_sessions.Goals.{in-Some+else-is_asked_for, in_default}

abbrev seat_of : Session → Seat
seat_of = λ row. row.seat

pub loop-place-preserved : goal.loop-place-preserved
loop-place-preserved c =
    let asked = c.args.asked.now in
    let seats = asked.seats in
    let place = c.loop-place.place in
    let told = c.loop-place.told in
    let test : Seat → Bool = is_asked_for asked.moment c.args.visible c.args.invisible c.args.most in
    let found : option_copied c.nth_seat.result ≡ slice_get seats place =
    c.nth_seat.ensures ∙ ap (λ those. slice_get those place) c.sessions-sessions.ensures in
    elim c.match-nth_seat.branch [
      | in-Some+then-is_asked_for+in_ok-dynamic_of+in_ok-push w ↦
          let seat = w.in-Some.seat.now in
          let here : slice_get seats place ≡ Some seat = sym found ∙ ap option_copied w.in-Some.is in
          pushed-kept test (dynamic_of asked) [] seats place seat (slice_get_within seats place seat here)
          (sym (get_or_from_slice_get seats place seat seat here))
          (ap (λ moment. is_asked_for moment c.args.visible c.args.invisible c.args.most seat)
          (sym c.moment-moment.ensures) ∙ sym w.is_asked_for.ensures ∙ w.if-is_asked_for.true)
          told _ c.loop-place.invariant
          (w.told-is ∙ w.in_ok-push.ensures.ok ∙ ap (λ one. told ++ one ∷ []) w.in_ok-dynamic_of.ensures)
      | in-Some+else-is_asked_for w ↦
          let seat = w.in-Some.seat.now in
          let here : slice_get seats place ≡ Some seat = sym found ∙ ap option_copied w.in-Some.is in
          w.told-is
          ∙ pushed-left test (dynamic_of asked) [] seats place seat (slice_get_within seats place seat here)
          (sym (get_or_from_slice_get seats place seat seat here))
          (ap (λ moment. is_asked_for moment c.args.visible c.args.invisible c.args.most seat)
          (sym c.moment-moment.ensures) ∙ sym w.is_asked_for.ensures ∙ w.if-is_asked_for.false)
          told c.loop-place.invariant
      | in_default w ↦
          let rows = c.sessions-sessions.result.now in
          let many : length rows ≡ length seats =
          sym (length-map rows seat_of) ∙ ap length c.sessions-sessions.ensures in
          absurd (pushed-past (λ (seat : Seat). seat) [] seats place
          (omega (arith, many, c.len-place-end.ensures.len, c.loop-place-test.true))
          (sym found ∙ ap option_copied w.in_default.is))
    ]

pub returns : goal.returns
returns c =
    let asked = c.args.asked.now in
    let rows = c.sessions-sessions.result.now in
    let test : Seat → Bool = is_asked_for asked.moment c.args.visible c.args.invisible c.args.most in
    let many : length rows ≡ length asked.seats =
    sym (length-map rows seat_of) ∙ ap length c.sessions-sessions.ensures in
    c.loop-place.invariant
    ∙ ap (λ those. map (dynamic_of asked) (filter test those))
    (take_all c.loop-place.place asked.seats
    (omega (arith, many, c.len-place-end.ensures.len, c.loop-place-test.false)))
