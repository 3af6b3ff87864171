use Rattle.std.proofs.Common.{List, ℕ, false, refl, sym, ap, subst, Ok, Err}
use Rattle.kom_types.specs.declared.acts.Act.TheVariants as act
use Rattle.kom_links.specs.declared.deeds.Deed.TheVariants as deed
use Rattle.kom_links.specs.declared.served.SessionEnd.TheVariants as end
use Rattle.kom_links.specs.DeskCalls.{record_of, Connects}
use Rattle.kom_session.specs.declared.phase.Stage.TheVariants as stage
use Rattle.kom_session.specs.Known.{Known}
use Rattle.kom_session.proofs.Acted.{greeting_connected, greeting_refused}
use Rattle.kom_session.proofs.Leading.{leads_known, leads_record, leads_refused}
use Rattle.kom_session.proofs.machine.Machine.greet.Goals as goal

pub returns-in-Ok-clause-taken : goal.returns-in-Ok-clause-taken
returns-in-Ok-clause-taken g c = λ link.
    let old = g.K.Desk.view c.args.desk.now in
    let new = g.K.Desk.view c.connect.new.self in
    let user = c.args.user.now in
    let number = c.in-Ok.number in
    let moment = c.now.result in
    let connects : Connects old moment user c.args.host.now (Ok number) new =
    rw c.as_slice.ensures at c.in-Ok.ensures.connects in
    leads_record deed.Connect (Ok tt)
    (record_of old.pass moment (act.Connect user c.args.host.now) number false) c.now.ensures.gains
    (λ some. absurd (some c.requires.none)) connects.added connects.tells
    (λ start (here, t). greeting_connected user t number moment new (g.C.Clock.gave c.now.new.self)
    (subst (λ (host : List ℕ). Connects old moment user host (Ok number) new) (sym here) connects))

pub returns-in-Err-clause-taken : goal.returns-in-Err-clause-taken
returns-in-Err-clause-taken g c = λ link.
    let old = g.K.Desk.view c.args.desk.now in
    let new = g.K.Desk.view c.connect.new.self in
    let user = c.args.user.now in
    let reason = c.in-Err.fault in
    let moment = c.now.result in
    let connects : Connects old moment user c.args.host.now (Err reason) new =
    rw c.as_slice.ensures at c.in-Err.ensures.connects in
    leads_known (ap (λ (known : Known). record known { stage = stage.Over end.End }) c.note.ensures)
    (leads_refused deed.Connect (Err reason) moment c.now.ensures.gains (λ some. refl)
    connects.none_added connects.tells
    (λ start (here, t). greeting_refused user t moment reason new (g.C.Clock.gave c.now.new.self)
    (subst (λ (host : List ℕ). Connects old moment user host (Err reason) new) (sym here) connects)))
