use Rattle.std.proofs.Common.{[], inl, refl, sym, ◌∙◌}
use Rattle.std.proofs.lemmas.Result.{err_from_is_err_and}
use Rattle.kom_types.specs.declared.calls.Call.TheVariants as call
use Rattle.kom_sweep.specs.Acting.{Seen, sight}
use Rattle.kom_sweep.proofs.Going.{goes_none, stops_at}
use Rattle.kom_sweep.proofs.Walking.{breaks_on, breaks_about}
use Rattle.kom_sweep.proofs.Working.{log_not, log_all, log_breaks, log_cut}
use Rattle.kom_sweep.proofs.sweeping.log_in.Goals as goal

pub returns-in_err-call-clause-err : goal.returns-in_err-call-clause-err
returns-in_err-call-clause-err g c =
    let x : Seen = sight (g.K.Desk.view c.args.desk.now) (g.C.Clock.gave c.args.clock.now) c.args.talk.now.next in
    let p = err_from_is_err_and c.from_residual.result c.from_residual.ensures.1 in
    rw (p.1, p.2) ([], inl refl, stops_at x x (goes_none c.args.session x))

pub returns-in_err-login-clause-err : goal.returns-in_err-login-clause-err
returns-in_err-login-clause-err g c =
    let x : Seen = sight (g.K.Desk.view c.args.desk.now) (g.C.Clock.gave c.args.clock.now) c.args.talk.now.next in
    let y : Seen = sight (g.K.Desk.view c.ask.new.desk) (g.C.Clock.gave c.ask.new.clock) c.ask.new.self.next in
    let p = err_from_is_err_and c.from_residual-in_err-login.result c.from_residual-in_err-login.ensures.1 in
    rw (p.1, p.2)
    (log_cut c.args.session c.args.person c.args.password.now c.in_ok-call.call x y c.in_ok-call.ensures
    c.in_err-login.ensures.err)

pub returns-in-Some-clause-ok : goal.returns-in-Some-clause-ok
returns-in-Some-clause-ok g c =
    let x : Seen = sight (g.K.Desk.view c.args.desk.now) (g.C.Clock.gave c.args.clock.now) c.args.talk.now.next in
    let y : Seen = sight (g.K.Desk.view c.ask.new.desk) (g.C.Clock.gave c.ask.new.clock) c.ask.new.self.next in
    log_not c.args.session c.args.person c.args.password.now c.in_ok-call.call c.in_ok-login.login c.in-Some.refusal x y
    c.in_ok-call.ensures c.in_ok-login.ensures.ok (sym c.refusal_of.ensures ∙ c.in-Some.is)

pub returns-in_err-rights-clause-err : goal.returns-in_err-rights-clause-err
returns-in_err-rights-clause-err g c =
    let x : Seen = sight (g.K.Desk.view c.args.desk.now) (g.C.Clock.gave c.args.clock.now) c.args.talk.now.next in
    let m : Seen = sight (g.K.Desk.view c.ask.new.desk) (g.C.Clock.gave c.ask.new.clock) c.ask.new.self.next in
    let y : Seen = sight (g.K.Desk.view c.ask-2.new.desk) (g.C.Clock.gave c.ask-2.new.clock) c.ask-2.new.self.next in
    let p = err_from_is_err_and c.from_residual-in_err-rights.result c.from_residual-in_err-rights.ensures.1 in
    rw (p.1, p.2)
    (log_breaks c.args.session c.args.person c.args.password.now c.in_ok-call.call c.in_ok-login.login x m y
    c.in_ok-call.ensures c.in_ok-login.ensures.ok (breaks_about (call.Enable 255) m y refl c.in_err-rights.ensures.err))

pub returns-in_err-stable-clause-err : goal.returns-in_err-stable-clause-err
returns-in_err-stable-clause-err g c =
    let x : Seen = sight (g.K.Desk.view c.args.desk.now) (g.C.Clock.gave c.args.clock.now) c.args.talk.now.next in
    let m : Seen = sight (g.K.Desk.view c.ask.new.desk) (g.C.Clock.gave c.ask.new.clock) c.ask.new.self.next in
    let n : Seen = sight (g.K.Desk.view c.ask-2.new.desk) (g.C.Clock.gave c.ask-2.new.clock) c.ask-2.new.self.next in
    let y : Seen = sight (g.K.Desk.view c.ask-3.new.desk) (g.C.Clock.gave c.ask-3.new.clock) c.ask-3.new.self.next in
    let p = err_from_is_err_and c.from_residual-in_err-stable.result c.from_residual-in_err-stable.ensures.1 in
    rw (p.1, p.2)
    (log_breaks c.args.session c.args.person c.args.password.now c.in_ok-call.call c.in_ok-login.login x m y
    c.in_ok-call.ensures c.in_ok-login.ensures.ok
    (breaks_on m n y c.in_ok-rights.ensures.ok refl (breaks_about call.SyncKom n y refl c.in_err-stable.ensures.err)))

pub returns-clause-ok : goal.returns-clause-ok
returns-clause-ok g c =
    let x : Seen = sight (g.K.Desk.view c.args.desk.now) (g.C.Clock.gave c.args.clock.now) c.args.talk.now.next in
    let m : Seen = sight (g.K.Desk.view c.ask.new.desk) (g.C.Clock.gave c.ask.new.clock) c.ask.new.self.next in
    let n : Seen = sight (g.K.Desk.view c.ask-2.new.desk) (g.C.Clock.gave c.ask-2.new.clock) c.ask-2.new.self.next in
    let y : Seen = sight (g.K.Desk.view c.ask-3.new.desk) (g.C.Clock.gave c.ask-3.new.clock) c.ask-3.new.self.next in
    log_all c.args.session c.args.person c.args.password.now c.in_ok-call.call c.in_ok-login.login
    c.in_ok-rights.rights c.in_ok-stable.stable c.refusal_of-2.result x m n y c.in_ok-call.ensures
    c.in_ok-login.ensures.ok (sym c.refusal_of.ensures ∙ c.in_default.is) c.in_ok-rights.ensures.ok
    c.in_ok-stable.ensures.ok c.refusal_of-2.ensures

-- ---- the session stays open, and the desk is the same

pub returns-in_err-call-clause-ok : goal.returns-in_err-call-clause-ok
returns-in_err-call-clause-ok g c =
    let p = err_from_is_err_and c.from_residual.result c.from_residual.ensures.1 in rw (p.1) tt

pub returns-in_err-call-clause-open : goal.returns-in_err-call-clause-open
returns-in_err-call-clause-open g c = c.requires

pub returns-in_err-call-clause-on : goal.returns-in_err-call-clause-on
returns-in_err-call-clause-on g c = g.met.K.Desk.goes_on_itself _

pub returns-in_err-login-clause-ok : goal.returns-in_err-login-clause-ok
returns-in_err-login-clause-ok g c =
    let p = err_from_is_err_and c.from_residual-in_err-login.result c.from_residual-in_err-login.ensures.1 in
    rw (p.1) tt

pub returns-in_err-login-clause-open : goal.returns-in_err-login-clause-open
returns-in_err-login-clause-open g c = c.ask.ensures.open

pub returns-in_err-login-clause-on : goal.returns-in_err-login-clause-on
returns-in_err-login-clause-on g c = c.ask.ensures.on

pub returns-in-Some-clause-err : goal.returns-in-Some-clause-err
returns-in-Some-clause-err g c = tt

pub returns-in-Some-clause-open : goal.returns-in-Some-clause-open
returns-in-Some-clause-open g c = c.ask.ensures.open

pub returns-in-Some-clause-on : goal.returns-in-Some-clause-on
returns-in-Some-clause-on g c = c.ask.ensures.on

pub returns-in_err-rights-clause-ok : goal.returns-in_err-rights-clause-ok
returns-in_err-rights-clause-ok g c =
    let p = err_from_is_err_and c.from_residual-in_err-rights.result c.from_residual-in_err-rights.ensures.1 in
    rw (p.1) tt

pub returns-in_err-rights-clause-open : goal.returns-in_err-rights-clause-open
returns-in_err-rights-clause-open g c = c.ask-2.ensures.open

pub returns-in_err-rights-clause-on : goal.returns-in_err-rights-clause-on
returns-in_err-rights-clause-on g c = g.met.K.Desk.goes_on_further _ _ _ c.ask.ensures.on c.ask-2.ensures.on

pub returns-in_err-stable-clause-ok : goal.returns-in_err-stable-clause-ok
returns-in_err-stable-clause-ok g c =
    let p = err_from_is_err_and c.from_residual-in_err-stable.result c.from_residual-in_err-stable.ensures.1 in
    rw (p.1) tt

pub returns-in_err-stable-clause-open : goal.returns-in_err-stable-clause-open
returns-in_err-stable-clause-open g c = c.ask-3.ensures.open

pub returns-in_err-stable-clause-on : goal.returns-in_err-stable-clause-on
returns-in_err-stable-clause-on g c =
    g.met.K.Desk.goes_on_further _ _ _ (g.met.K.Desk.goes_on_further _ _ _ c.ask.ensures.on c.ask-2.ensures.on)
    c.ask-3.ensures.on

pub returns-clause-err : goal.returns-clause-err
returns-clause-err g c = tt

pub returns-clause-open : goal.returns-clause-open
returns-clause-open g c = c.ask-3.ensures.open

pub returns-clause-on : goal.returns-clause-on
returns-clause-on g c =
    g.met.K.Desk.goes_on_further _ _ _ (g.met.K.Desk.goes_on_further _ _ _ c.ask.ensures.on c.ask-2.ensures.on)
    c.ask-3.ensures.on
