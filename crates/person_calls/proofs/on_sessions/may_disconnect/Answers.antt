use Rattle.std.proofs.Common.{◌≡◌, ◌&&◌, false, not, eqb, None, Some, sym, ap, ◌∙◌}
use Rattle.std.proofs.lemmas.Bool.{ne_eqb}
use Rattle.kom_model.specs.Rights.{supervises}
use Rattle.kom_model.specs.calls.Guards.{caller, seat_at}
use Rattle.person_calls.proofs.Ending.{ended-supervised}
use Rattle.person_calls.proofs.on_sessions.may_disconnect.Goals as goal

pub returns-in-None : goal.returns-in-None
returns-in-None c =
    let asked = c.args.asked.now in
    let session = c.args.session in
    let other : eqb session asked.session ≡ false =
    ne_eqb _ _ (λ same. c.if-session.false (same ∙ sym c.session.ensures)) in
    let weak : (caller asked).strong ≡ false =
    ap (λ viewer. viewer.strong) (sym c.caller-caller.ensures) ∙ c.if-caller.false in
    ended-supervised asked session None other weak
    (c.in-None.ensures ∙ ap (λ seats. seat_at seats session) c.sessions.ensures)

pub returns-in-Some : goal.returns-in-Some
returns-in-Some c =
    let asked = c.args.asked.now in
    let session = c.args.session in
    let seat = c.in-Some.seat.now in
    let other : eqb session asked.session ≡ false =
    ne_eqb _ _ (λ same. c.if-session.false (same ∙ sym c.session.ensures)) in
    let weak : (caller asked).strong ≡ false =
    ap (λ viewer. viewer.strong) (sym c.caller-caller.ensures) ∙ c.if-caller.false in
    c.supervises_at.ensures
    ∙ ap (λ db. not (eqb seat.person 0) && supervises db c.caller-caller.result.person seat.person) c.rows.ensures
    ∙ ap (λ viewer. not (eqb seat.person 0) && supervises asked.db viewer.person seat.person) c.caller-caller.ensures
    ∙ ended-supervised asked session (Some seat) other weak
    (c.in-Some.ensures ∙ ap (λ seats. seat_at seats session) c.sessions.ensures)
