use Rattle.std.proofs.Common.{sym, ap, ◌∙◌}
use Rattle.std.proofs.lemmas.Result.{err_from_is_err_and}
use Rattle.kom_types.specs.declared.calls.Call.TheVariants as call
use Rattle.kom_sweep.specs.Acting.{Seen, sight}
use Rattle.kom_sweep.specs.Ages.{with_age}
use Rattle.kom_sweep.proofs.Aging.{no_child, one_child}
use Rattle.kom_sweep.proofs.Walking.{breaks_about}
use Rattle.std.proofs.Common.{refl}
use Rattle.kom_sweep.proofs.ages.ask_age.Goals as goal

pub returns-in_default-clause-ok : goal.returns-in_default-clause-ok
returns-in_default-clause-ok g c =
    let x : Seen = sight (g.K.Desk.view c.args.desk.now) (g.C.Clock.gave c.args.clock.now) c.args.talk.now.next in
    no_child c.args.session c.args.known.0 c.args.info c.args.known.1 x (sym c.child_in.ensures ∙ c.in_default.is)

pub returns-clause-ok : goal.returns-clause-ok
returns-clause-ok g c =
    let x : Seen = sight (g.K.Desk.view c.args.desk.now) (g.C.Clock.gave c.args.clock.now) c.args.talk.now.next in
    let y : Seen = sight (g.K.Desk.view c.ask.new.desk) (g.C.Clock.gave c.ask.new.clock) c.ask.new.self.next in
    one_child c.args.session c.args.known.0 c.in-Some.text c.args.info c.args.known.1 c.with.result c.in_ok-reply.reply
    x y (sym c.child_in.ensures ∙ c.in-Some.is) c.in_ok-reply.ensures.ok
    (c.with.ensures ∙ ap (with_age c.args.known.1) c.age_in.ensures)

pub returns-in_err-reply-clause-err : goal.returns-in_err-reply-clause-err
returns-in_err-reply-clause-err g c =
    let x : Seen = sight (g.K.Desk.view c.args.desk.now) (g.C.Clock.gave c.args.clock.now) c.args.talk.now.next in
    let y : Seen = sight (g.K.Desk.view c.ask.new.desk) (g.C.Clock.gave c.ask.new.clock) c.ask.new.self.next in
    let p = err_from_is_err_and c.from_residual.result c.from_residual.ensures.1 in
    rw (p.1, p.2) (breaks_about (call.GetTextStat c.in-Some.text) x y refl c.in_err-reply.ensures.err)
