use Rattle.std.proofs.Common.{refl, sym, ap, ◌∙◌}
use Rattle.std.proofs.lemmas.Result.{err_from_is_err_and}
use Rattle.kom_types.specs.declared.calls.Call.TheVariants as call
use Rattle.kom_types.specs.declared.texts.TextStat.{TextStat}
use Rattle.kom_sweep.specs.Names.{is_due_at}
use Rattle.kom_sweep.specs.Acting.{Seen, sight}
use Rattle.kom_sweep.proofs.Looks.{look_untold, look_told}
use Rattle.kom_sweep.proofs.Walking.{breaks_on, breaks_about}
use Rattle.kom_sweep.proofs.looking.look.Goals as goal

pub returns-in_err-ask-clause-err : goal.returns-in_err-ask-clause-err
returns-in_err-ask-clause-err g c =
    let x : Seen = sight (g.K.Desk.view c.args.desk.now) (g.C.Clock.gave c.args.clock.now) c.args.talk.now.next in
    let y : Seen = sight (g.K.Desk.view c.ask.new.desk) (g.C.Clock.gave c.ask.new.clock) c.ask.new.self.next in
    let p = err_from_is_err_and c.from_residual.result c.from_residual.ensures.1 in
    rw (p.1, p.2) (breaks_about (call.GetTextStat c.args.text) x y refl c.in_err-ask.ensures.err)

pub returns-in_default-clause-ok : goal.returns-in_default-clause-ok
returns-in_default-clause-ok g c =
    let x : Seen = sight (g.K.Desk.view c.args.desk.now) (g.C.Clock.gave c.args.clock.now) c.args.talk.now.next in
    let y : Seen = sight (g.K.Desk.view c.ask.new.desk) (g.C.Clock.gave c.ask.new.clock) c.ask.new.self.next in
    look_untold c.args.session c.args.text c.args.judge.now.moment c.in_ok-ask.field-0 x y c.args.judge.now.names.now
    c.in_ok-ask.ensures.ok (sym c.stat_in.ensures ∙ c.in_default.is)

pub returns-in_err-ages-clause-err : goal.returns-in_err-ages-clause-err
returns-in_err-ages-clause-err g c =
    let x : Seen = sight (g.K.Desk.view c.args.desk.now) (g.C.Clock.gave c.args.clock.now) c.args.talk.now.next in
    let m : Seen = sight (g.K.Desk.view c.ask.new.desk) (g.C.Clock.gave c.ask.new.clock) c.ask.new.self.next in
    let y : Seen =
    sight (g.K.Desk.view c.ask_ages.new.desk) (g.C.Clock.gave c.ask_ages.new.clock) c.ask_ages.new.talk.next in
    let p = err_from_is_err_and c.from_residual-in_err-ages.result c.from_residual-in_err-ages.ensures.1 in
    rw (p.1, p.2) (breaks_on x m y c.in_ok-ask.ensures.ok refl c.in_err-ages.ensures.err)

pub returns-clause-ok : goal.returns-clause-ok
returns-clause-ok g c =
    let x : Seen = sight (g.K.Desk.view c.args.desk.now) (g.C.Clock.gave c.args.clock.now) c.args.talk.now.next in
    let m : Seen = sight (g.K.Desk.view c.ask.new.desk) (g.C.Clock.gave c.ask.new.clock) c.ask.new.self.next in
    let y : Seen =
    sight (g.K.Desk.view c.ask_ages.new.desk) (g.C.Clock.gave c.ask_ages.new.clock) c.ask_ages.new.talk.next in
    look_told c.args.session c.args.text c.args.judge.now.moment c.in_ok-ask.field-0 c.in-Some.stat
    c.as_slice-infos.result.now c.in_ok-ages.ages
    c.is_due.result x m y c.args.judge.now.names.now c.ranges.text.fits c.in_ok-ask.ensures.ok
    (sym c.stat_in.ensures ∙ c.in-Some.is)
    (c.as_slice-infos.ensures ∙ ap (λ (stat : TextStat). stat.misc_infos) c.get-told.ensures) c.in_ok-ages.ensures.ok
    (c.is_due.ensures
    ∙ ap (λ stat. is_due_at c.args.judge.now.names.now c.args.judge.now.moment c.args.text stat c.in_ok-ages.ages)
    c.get-told.ensures)
