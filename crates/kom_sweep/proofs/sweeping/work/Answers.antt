use Rattle.std.proofs.Common.{◌∙◌}
use Rattle.std.proofs.lemmas.Result.{err_from_is_err_and}
use Rattle.kom_sweep.specs.Acting.{Seen, sight}
use Rattle.kom_sweep.proofs.Working.{finds, work_done, works_refused, broken_first, broken_names}
use Rattle.kom_sweep.proofs.Working.{broken_texts, broken_then, broken_last}
use Rattle.kom_sweep.proofs.sweeping.work.Goals as goal

pub returns-in_err-code-clause-err : goal.returns-in_err-code-clause-err
returns-in_err-code-clause-err g c =
    let x : Seen = sight (g.K.Desk.view c.args.desk.now) (g.C.Clock.gave c.args.clock.now) 1 in
    let y : Seen = sight (g.K.Desk.view c.log_in.new.desk) (g.C.Clock.gave c.log_in.new.clock) c.log_in.new.talk.next in
    let p = err_from_is_err_and c.from_residual.result c.from_residual.ensures.1 in
    let logged = rw (c.new-talk.ensures) at c.in_err-code.ensures.err in
    let broken = broken_first c.args.moment c.args.person c.args.session c.args.password.now x y logged in
    rw (p.1, p.2) (broken.0, c.log_in.new.talk.next, broken.1, broken.2)

pub returns-in-Some-clause-ok : goal.returns-in-Some-clause-ok
returns-in-Some-clause-ok g c =
    let x : Seen = sight (g.K.Desk.view c.args.desk.now) (g.C.Clock.gave c.args.clock.now) 1 in
    let y : Seen = sight (g.K.Desk.view c.log_in.new.desk) (g.C.Clock.gave c.log_in.new.clock) c.log_in.new.talk.next in
    let logged = rw (c.new-talk.ensures, c.in-Some.is) at c.in_ok-code.ensures.ok in
    let works = works_refused c.args.session c.args.moment c.args.person c.args.password.now c.in-Some.code
    c.in-Some.status c.log_in.new.talk.next x y logged in
    (works.0, c.log_in.new.talk.next, works.1, works.2)

pub returns-in_err-names-clause-err : goal.returns-in_err-names-clause-err
returns-in_err-names-clause-err g c =
    let x : Seen = sight (g.K.Desk.view c.args.desk.now) (g.C.Clock.gave c.args.clock.now) 1 in
    let m : Seen = sight (g.K.Desk.view c.log_in.new.desk) (g.C.Clock.gave c.log_in.new.clock) c.log_in.new.talk.next in
    let y : Seen =
    sight (g.K.Desk.view c.ask_names.new.desk) (g.C.Clock.gave c.ask_names.new.clock) c.ask_names.new.talk.next in
    let p = err_from_is_err_and c.from_residual-in_err-names.result c.from_residual-in_err-names.ensures.1 in
    let logged = rw (c.new-talk.ensures, c.in_default.is) at c.in_ok-code.ensures.ok in
    let broken = broken_names c.args.session c.args.moment c.args.person c.args.password.now x m y logged
    c.in_err-names.ensures.err in
    rw (p.1, p.2) (broken.0, c.ask_names.new.talk.next, broken.1, broken.2)

pub returns-in_err-found-clause-err : goal.returns-in_err-found-clause-err
returns-in_err-found-clause-err g c =
    let x : Seen = sight (g.K.Desk.view c.args.desk.now) (g.C.Clock.gave c.args.clock.now) 1 in
    let m : Seen = sight (g.K.Desk.view c.log_in.new.desk) (g.C.Clock.gave c.log_in.new.clock) c.log_in.new.talk.next in
    let n : Seen =
    sight (g.K.Desk.view c.ask_names.new.desk) (g.C.Clock.gave c.ask_names.new.clock) c.ask_names.new.talk.next in
    let y : Seen =
    sight (g.K.Desk.view c.find_due.new.desk) (g.C.Clock.gave c.find_due.new.clock) c.find_due.new.talk.next in
    let p = err_from_is_err_and c.from_residual-in_err-found.result c.from_residual-in_err-found.ensures.1 in
    let logged = rw (c.new-talk.ensures, c.in_default.is) at c.in_ok-code.ensures.ok in
    let rooms = c.in_ok-names.ensures.ok in
    let broken = broken_texts c.args.session c.args.moment c.args.person c.args.password.now x m n y logged rooms.0
    rooms.2 c.in_err-found.ensures.err in
    rw (p.1, p.2) (broken.0, c.find_due.new.talk.next, broken.1, broken.2)

pub returns-in_err-swept-clause-err : goal.returns-in_err-swept-clause-err
returns-in_err-swept-clause-err g c =
    let x : Seen = sight (g.K.Desk.view c.args.desk.now) (g.C.Clock.gave c.args.clock.now) 1 in
    let m : Seen = sight (g.K.Desk.view c.log_in.new.desk) (g.C.Clock.gave c.log_in.new.clock) c.log_in.new.talk.next in
    let n : Seen =
    sight (g.K.Desk.view c.ask_names.new.desk) (g.C.Clock.gave c.ask_names.new.clock) c.ask_names.new.talk.next in
    let o : Seen =
    sight (g.K.Desk.view c.find_due.new.desk) (g.C.Clock.gave c.find_due.new.clock) c.find_due.new.talk.next in
    let y : Seen =
    sight (g.K.Desk.view c.delete_all.new.desk) (g.C.Clock.gave c.delete_all.new.clock) c.delete_all.new.talk.next in
    let p = err_from_is_err_and c.from_residual-in_err-swept.result c.from_residual-in_err-swept.ensures.1 in
    let logged = rw (c.new-talk.ensures, c.in_default.is) at c.in_ok-code.ensures.ok in
    let rooms = c.in_ok-names.ensures.ok in
    let texts = c.in_ok-found.ensures.ok in
    let found = finds c.args.session c.args.moment c.args.person c.args.password.now logged.0 rooms.0 texts.0
    c.in_ok-found.found.count c.as_slice.result.now x m n o logged.1 logged.2 rooms.1 rooms.2 texts.1 texts.2 texts.3
    (c.as_slice.ensures.value ∙ texts.4 rooms.0 rooms.3) in
    let broken = broken_then c.args.session c.args.moment c.args.person c.args.password.now c.in_ok-found.found.count
    c.as_slice.result.now x o y found c.in_err-swept.ensures.err in
    rw (p.1, p.2) (broken.0, c.delete_all.new.talk.next, broken.1, broken.2)

pub returns-in_err-logout-clause-err : goal.returns-in_err-logout-clause-err
returns-in_err-logout-clause-err g c =
    let x : Seen = sight (g.K.Desk.view c.args.desk.now) (g.C.Clock.gave c.args.clock.now) 1 in
    let m : Seen = sight (g.K.Desk.view c.log_in.new.desk) (g.C.Clock.gave c.log_in.new.clock) c.log_in.new.talk.next in
    let n : Seen =
    sight (g.K.Desk.view c.ask_names.new.desk) (g.C.Clock.gave c.ask_names.new.clock) c.ask_names.new.talk.next in
    let o : Seen =
    sight (g.K.Desk.view c.find_due.new.desk) (g.C.Clock.gave c.find_due.new.clock) c.find_due.new.talk.next in
    let q : Seen =
    sight (g.K.Desk.view c.delete_all.new.desk) (g.C.Clock.gave c.delete_all.new.clock) c.delete_all.new.talk.next in
    let y : Seen = sight (g.K.Desk.view c.ask.new.desk) (g.C.Clock.gave c.ask.new.clock) c.ask.new.self.next in
    let p = err_from_is_err_and c.from_residual-in_err-logout.result c.from_residual-in_err-logout.ensures.1 in
    let logged = rw (c.new-talk.ensures, c.in_default.is) at c.in_ok-code.ensures.ok in
    let rooms = c.in_ok-names.ensures.ok in
    let texts = c.in_ok-found.ensures.ok in
    let found = finds c.args.session c.args.moment c.args.person c.args.password.now logged.0 rooms.0 texts.0
    c.in_ok-found.found.count c.as_slice.result.now x m n o logged.1 logged.2 rooms.1 rooms.2 texts.1 texts.2 texts.3
    (c.as_slice.ensures.value ∙ texts.4 rooms.0 rooms.3) in
    let gone = c.in_ok-swept.ensures.ok in
    let broken = broken_last c.args.session c.args.moment c.args.person c.args.password.now c.in_ok-found.found.count
    c.as_slice.result.now gone.0 x o q y found gone.1 gone.3 c.in_err-logout.ensures.err in
    rw (p.1, p.2) (broken.0, c.ask.new.self.next, broken.1, broken.2)

pub returns-clause-ok : goal.returns-clause-ok
returns-clause-ok g c =
    let x : Seen = sight (g.K.Desk.view c.args.desk.now) (g.C.Clock.gave c.args.clock.now) 1 in
    let m : Seen = sight (g.K.Desk.view c.log_in.new.desk) (g.C.Clock.gave c.log_in.new.clock) c.log_in.new.talk.next in
    let n : Seen =
    sight (g.K.Desk.view c.ask_names.new.desk) (g.C.Clock.gave c.ask_names.new.clock) c.ask_names.new.talk.next in
    let o : Seen =
    sight (g.K.Desk.view c.find_due.new.desk) (g.C.Clock.gave c.find_due.new.clock) c.find_due.new.talk.next in
    let q : Seen =
    sight (g.K.Desk.view c.delete_all.new.desk) (g.C.Clock.gave c.delete_all.new.clock) c.delete_all.new.talk.next in
    let y : Seen = sight (g.K.Desk.view c.ask.new.desk) (g.C.Clock.gave c.ask.new.clock) c.ask.new.self.next in
    let logged = rw (c.new-talk.ensures, c.in_default.is) at c.in_ok-code.ensures.ok in
    let rooms = c.in_ok-names.ensures.ok in
    let texts = c.in_ok-found.ensures.ok in
    let found = finds c.args.session c.args.moment c.args.person c.args.password.now logged.0 rooms.0 texts.0
    c.in_ok-found.found.count c.as_slice.result.now x m n o logged.1 logged.2 rooms.1 rooms.2 texts.1 texts.2 texts.3
    (c.as_slice.ensures.value ∙ texts.4 rooms.0 rooms.3) in
    let gone = c.in_ok-swept.ensures.ok in
    let works = work_done c.args.session c.args.moment c.args.person c.args.password.now c.in_ok-found.found.count
    c.in_ok-swept.swept c.saturating_sub-kept.result c.ask.new.self.next c.as_slice.result.now gone.0
    c.in_ok-logout.logout x o q y found gone.1 gone.2 gone.3 c.in_ok-logout.ensures.ok c.saturating_sub-kept.ensures in
    (works.0, c.ask.new.self.next, works.1, works.2)

-- ---- the session stays open, and the desk is the same

pub returns-in_err-code-clause-ok : goal.returns-in_err-code-clause-ok
returns-in_err-code-clause-ok g c =
    let p = err_from_is_err_and c.from_residual.result c.from_residual.ensures.1 in rw (p.1) tt

pub returns-in_err-code-clause-open : goal.returns-in_err-code-clause-open
returns-in_err-code-clause-open g c = c.log_in.ensures.open

pub returns-in_err-code-clause-on : goal.returns-in_err-code-clause-on
returns-in_err-code-clause-on g c = c.log_in.ensures.on

pub returns-in-Some-clause-err : goal.returns-in-Some-clause-err
returns-in-Some-clause-err g c = tt

pub returns-in-Some-clause-open : goal.returns-in-Some-clause-open
returns-in-Some-clause-open g c = c.log_in.ensures.open

pub returns-in-Some-clause-on : goal.returns-in-Some-clause-on
returns-in-Some-clause-on g c = c.log_in.ensures.on

pub returns-in_err-names-clause-ok : goal.returns-in_err-names-clause-ok
returns-in_err-names-clause-ok g c =
    let p = err_from_is_err_and c.from_residual-in_err-names.result c.from_residual-in_err-names.ensures.1 in
    rw (p.1) tt

pub returns-in_err-names-clause-open : goal.returns-in_err-names-clause-open
returns-in_err-names-clause-open g c = c.ask_names.ensures.open

pub returns-in_err-names-clause-on : goal.returns-in_err-names-clause-on
returns-in_err-names-clause-on g c = g.met.K.Desk.goes_on_further _ _ _ c.log_in.ensures.on c.ask_names.ensures.on

pub returns-in_err-found-clause-ok : goal.returns-in_err-found-clause-ok
returns-in_err-found-clause-ok g c =
    let p = err_from_is_err_and c.from_residual-in_err-found.result c.from_residual-in_err-found.ensures.1 in
    rw (p.1) tt

pub returns-in_err-found-clause-open : goal.returns-in_err-found-clause-open
returns-in_err-found-clause-open g c = c.find_due.ensures.open

pub returns-in_err-found-clause-on : goal.returns-in_err-found-clause-on
returns-in_err-found-clause-on g c =
    g.met.K.Desk.goes_on_further _ _ _ (g.met.K.Desk.goes_on_further _ _ _ c.log_in.ensures.on c.ask_names.ensures.on)
    c.find_due.ensures.on

pub returns-in_err-swept-clause-ok : goal.returns-in_err-swept-clause-ok
returns-in_err-swept-clause-ok g c =
    let p = err_from_is_err_and c.from_residual-in_err-swept.result c.from_residual-in_err-swept.ensures.1 in
    rw (p.1) tt

pub returns-in_err-swept-clause-open : goal.returns-in_err-swept-clause-open
returns-in_err-swept-clause-open g c = c.delete_all.ensures.open

pub returns-in_err-swept-clause-on : goal.returns-in_err-swept-clause-on
returns-in_err-swept-clause-on g c =
    g.met.K.Desk.goes_on_further _ _ _ (g.met.K.Desk.goes_on_further _ _ _
    (g.met.K.Desk.goes_on_further _ _ _ c.log_in.ensures.on c.ask_names.ensures.on) c.find_due.ensures.on)
    c.delete_all.ensures.on

pub returns-in_err-logout-clause-ok : goal.returns-in_err-logout-clause-ok
returns-in_err-logout-clause-ok g c =
    let p = err_from_is_err_and c.from_residual-in_err-logout.result c.from_residual-in_err-logout.ensures.1 in
    rw (p.1) tt

pub returns-in_err-logout-clause-open : goal.returns-in_err-logout-clause-open
returns-in_err-logout-clause-open g c = c.ask.ensures.open

pub returns-in_err-logout-clause-on : goal.returns-in_err-logout-clause-on
returns-in_err-logout-clause-on g c =
    g.met.K.Desk.goes_on_further _ _ _
    (g.met.K.Desk.goes_on_further _ _ _ (g.met.K.Desk.goes_on_further _ _ _ (g.met.K.Desk.goes_on_further _ _ _
    c.log_in.ensures.on c.ask_names.ensures.on) c.find_due.ensures.on) c.delete_all.ensures.on) c.ask.ensures.on

pub returns-clause-err : goal.returns-clause-err
returns-clause-err g c = tt

pub returns-clause-open : goal.returns-clause-open
returns-clause-open g c = c.ask.ensures.open

pub returns-clause-on : goal.returns-clause-on
returns-clause-on g c =
    g.met.K.Desk.goes_on_further _ _ _
    (g.met.K.Desk.goes_on_further _ _ _ (g.met.K.Desk.goes_on_further _ _ _ (g.met.K.Desk.goes_on_further _ _ _
    c.log_in.ensures.on c.ask_names.ensures.on) c.find_due.ensures.on) c.delete_all.ensures.on) c.ask.ensures.on
