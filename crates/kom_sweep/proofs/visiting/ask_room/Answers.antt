use Rattle.std.proofs.Common.{[], ◌∷◌, ◌==◌, None, Some, refl, sym, ap, subst, ◌∙◌, if◌then◌else◌}
use Rattle.std.proofs.lemmas.Result.{err_from_is_err_and}
use Rattle.kom_types.specs.declared.calls.Call.TheVariants as call
use Rattle.kom_types.specs.tables.Conferences.{is_letterbox}
use Rattle.kom_types.specs.declared.conferences.Conference.{Conference}
use Rattle.kom_sweep.specs.Due.{days_of, conference_names}
use Rattle.kom_sweep.specs.Names.{Learns}
use Rattle.kom_sweep.specs.Told.{tell}
use Rattle.kom_sweep.specs.Acting.{Seen, sight}
use Rattle.kom_sweep.proofs.Going.{stops_at}
use Rattle.kom_sweep.proofs.Stepping.{room_untold, room_plain, room_owned}
use Rattle.kom_sweep.proofs.Walking.{breaks_on, breaks_about}
use Rattle.kom_sweep.proofs.visiting.ask_room.Goals as goal

pub returns-in_err-ask-clause-err : goal.returns-in_err-ask-clause-err
returns-in_err-ask-clause-err g c =
    let x : Seen = sight (g.K.Desk.view c.args.desk.now) (g.C.Clock.gave c.args.clock.now) c.args.talk.now.next in
    let y : Seen = sight (g.K.Desk.view c.ask.new.desk) (g.C.Clock.gave c.ask.new.clock) c.ask.new.self.next in
    let p = err_from_is_err_and c.from_residual.result c.from_residual.ensures.1 in
    rw (p.1, p.2) (breaks_about (call.GetConfStat c.args.number) x y refl c.in_err-ask.ensures.err)

pub returns-in_default-clause-ok : goal.returns-in_default-clause-ok
returns-in_default-clause-ok g c =
    let x : Seen = sight (g.K.Desk.view c.args.desk.now) (g.C.Clock.gave c.args.clock.now) c.args.talk.now.next in
    let y : Seen = sight (g.K.Desk.view c.ask.new.desk) (g.C.Clock.gave c.ask.new.clock) c.ask.new.self.next in
    room_untold c.args.session c.args.number c.in_ok-ask.field-0 x y c.args.names.now _ c.in_ok-ask.ensures.ok
    (sym c.conference_in.ensures ∙ c.in_default.is) refl refl refl

pub returns-in_err-note_conference-clause-err : goal.returns-in_err-note_conference-clause-err
returns-in_err-note_conference-clause-err g c =
    let x : Seen = sight (g.K.Desk.view c.args.desk.now) (g.C.Clock.gave c.args.clock.now) c.args.talk.now.next in
    let y : Seen = sight (g.K.Desk.view c.ask.new.desk) (g.C.Clock.gave c.ask.new.clock) c.ask.new.self.next in
    let p = err_from_is_err_and c.from_residual-in_err-note_conference.result
    c.from_residual-in_err-note_conference.ensures.1 in
    rw (p.1, p.2)
    (tell (call.GetConfStat c.args.number) c.in_ok-ask.field-0 ∷ [], refl, stops_at x y c.in_ok-ask.ensures.ok)

pub returns-in_err-ask_owner-clause-err : goal.returns-in_err-ask_owner-clause-err
returns-in_err-ask_owner-clause-err g c =
    let x : Seen = sight (g.K.Desk.view c.args.desk.now) (g.C.Clock.gave c.args.clock.now) c.args.talk.now.next in
    let m : Seen = sight (g.K.Desk.view c.ask.new.desk) (g.C.Clock.gave c.ask.new.clock) c.ask.new.self.next in
    let y : Seen =
    sight (g.K.Desk.view c.ask_owner.new.desk) (g.C.Clock.gave c.ask_owner.new.clock) c.ask_owner.new.talk.next in
    let p = err_from_is_err_and c.from_residual-in_err-ask_owner.result c.from_residual-in_err-ask_owner.ensures.1 in
    rw (p.1, p.2) (breaks_on x m y c.in_ok-ask.ensures.ok refl c.in_err-ask_owner.ensures.err)

pub returns-then-is_letterbox-clause-ok : goal.returns-then-is_letterbox-clause-ok
returns-then-is_letterbox-clause-ok g c =
    let x : Seen = sight (g.K.Desk.view c.args.desk.now) (g.C.Clock.gave c.args.clock.now) c.args.talk.now.next in
    let m : Seen = sight (g.K.Desk.view c.ask.new.desk) (g.C.Clock.gave c.ask.new.clock) c.ask.new.self.next in
    let y : Seen =
    sight (g.K.Desk.view c.ask_owner.new.desk) (g.C.Clock.gave c.ask_owner.new.clock) c.ask_owner.new.talk.next in
    room_owned c.args.session c.args.number c.in_ok-ask.field-0 c.in-Some.conference x m y c.args.names.now
    c.note_conference.new.self c.ask_owner.new.names c.in_ok-ask.ensures.ok (sym c.conference_in.ensures ∙ c.in-Some.is)
    (ap (λ (conference : Conference). is_letterbox conference.kind) (sym c.get-2.ensures) ∙ sym c.is_letterbox.ensures
    ∙ c.if-is_letterbox.true)
    (subst (λ (conference : Conference). Learns
    (λ one. if c.args.number == one then Some (days_of conference) else None)
    (λ text. conference_names text (Some conference)) c.args.names.now.whole c.args.names.now
    c.note_conference.new.self) c.get.ensures c.in_ok-note_conference.ensures) c.in_ok-ask_owner.ensures.ok

pub returns-clause-ok : goal.returns-clause-ok
returns-clause-ok g c =
    let x : Seen = sight (g.K.Desk.view c.args.desk.now) (g.C.Clock.gave c.args.clock.now) c.args.talk.now.next in
    let m : Seen = sight (g.K.Desk.view c.ask.new.desk) (g.C.Clock.gave c.ask.new.clock) c.ask.new.self.next in
    room_plain c.args.session c.args.number c.in_ok-ask.field-0 c.in-Some.conference x m c.args.names.now
    c.note_conference.new.self c.in_ok-ask.ensures.ok (sym c.conference_in.ensures ∙ c.in-Some.is)
    (ap (λ (conference : Conference). is_letterbox conference.kind) (sym c.get-2.ensures) ∙ sym c.is_letterbox.ensures
    ∙ c.if-is_letterbox.false)
    (subst (λ (conference : Conference). Learns
    (λ one. if c.args.number == one then Some (days_of conference) else None)
    (λ text. conference_names text (Some conference)) c.args.names.now.whole c.args.names.now
    c.note_conference.new.self) c.get.ensures c.in_ok-note_conference.ensures)

-- ---- the session stays open, and the desk is the same

pub returns-in_err-ask-clause-ok : goal.returns-in_err-ask-clause-ok
returns-in_err-ask-clause-ok g c =
    let p = err_from_is_err_and c.from_residual.result c.from_residual.ensures.1 in rw (p.1) tt

pub returns-in_err-ask-clause-open : goal.returns-in_err-ask-clause-open
returns-in_err-ask-clause-open g c = c.ask.ensures.open

pub returns-in_err-ask-clause-on : goal.returns-in_err-ask-clause-on
returns-in_err-ask-clause-on g c = c.ask.ensures.on

pub returns-in_default-clause-err : goal.returns-in_default-clause-err
returns-in_default-clause-err g c = tt

pub returns-in_default-clause-open : goal.returns-in_default-clause-open
returns-in_default-clause-open g c = c.ask.ensures.open

pub returns-in_default-clause-on : goal.returns-in_default-clause-on
returns-in_default-clause-on g c = c.ask.ensures.on

pub returns-in_err-note_conference-clause-ok : goal.returns-in_err-note_conference-clause-ok
returns-in_err-note_conference-clause-ok g c =
    let p = err_from_is_err_and c.from_residual-in_err-note_conference.result
    c.from_residual-in_err-note_conference.ensures.1 in
    rw (p.1) tt

pub returns-in_err-note_conference-clause-open : goal.returns-in_err-note_conference-clause-open
returns-in_err-note_conference-clause-open g c = c.ask.ensures.open

pub returns-in_err-note_conference-clause-on : goal.returns-in_err-note_conference-clause-on
returns-in_err-note_conference-clause-on g c = c.ask.ensures.on

pub returns-in_err-ask_owner-clause-ok : goal.returns-in_err-ask_owner-clause-ok
returns-in_err-ask_owner-clause-ok g c =
    let p = err_from_is_err_and c.from_residual-in_err-ask_owner.result c.from_residual-in_err-ask_owner.ensures.1 in
    rw (p.1) tt

pub returns-in_err-ask_owner-clause-open : goal.returns-in_err-ask_owner-clause-open
returns-in_err-ask_owner-clause-open g c = c.ask_owner.ensures.open

pub returns-in_err-ask_owner-clause-on : goal.returns-in_err-ask_owner-clause-on
returns-in_err-ask_owner-clause-on g c = g.met.K.Desk.goes_on_further _ _ _ c.ask.ensures.on c.ask_owner.ensures.on

pub returns-then-is_letterbox-clause-err : goal.returns-then-is_letterbox-clause-err
returns-then-is_letterbox-clause-err g c = tt

pub returns-then-is_letterbox-clause-open : goal.returns-then-is_letterbox-clause-open
returns-then-is_letterbox-clause-open g c = c.ask_owner.ensures.open

pub returns-then-is_letterbox-clause-on : goal.returns-then-is_letterbox-clause-on
returns-then-is_letterbox-clause-on g c = g.met.K.Desk.goes_on_further _ _ _ c.ask.ensures.on c.ask_owner.ensures.on

pub returns-clause-err : goal.returns-clause-err
returns-clause-err g c = tt

pub returns-clause-open : goal.returns-clause-open
returns-clause-open g c = c.ask.ensures.open

pub returns-clause-on : goal.returns-clause-on
returns-clause-on g c = c.ask.ensures.on
