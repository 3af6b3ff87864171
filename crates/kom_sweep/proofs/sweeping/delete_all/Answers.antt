use Rattle.std.proofs.Common.{[], refl, arith}
use Rattle.std.proofs.lemmas.Result.{err_from_is_err_and}
use Rattle.kom_sweep.specs.Acting.{Seen, sight}
use Rattle.kom_sweep.proofs.Going.{goes_none}
use Rattle.kom_sweep.proofs.Stepping.{deletes_step, deletes_end, deletes_all, counts}
use Rattle.kom_sweep.proofs.sweeping.delete_all.Goals as goal

pub loop-text-init : goal.loop-text-init
loop-text-init g c =
    let x : Seen = sight (g.K.Desk.view c.args.desk.now) (g.C.Clock.gave c.args.clock.now) c.args.talk.now.next in
    record {
      asked = ([], refl, refl, goes_none c.args.session x);
      counted = omega arith;
      opened = c.requires;
      on = g.met.K.Desk.goes_on_itself _;
    }

pub loop-text-preserved : goal.loop-text-preserved
loop-text-preserved g c =
    let x : Seen = sight (g.K.Desk.view c.args.desk.now) (g.C.Clock.gave c.args.clock.now) c.args.talk.now.next in
    let m : Seen = sight (g.K.Desk.view c.loop-text.desk) (g.C.Clock.gave c.loop-text.clock) c.loop-text.talk.next in
    let y : Seen = sight (g.K.Desk.view c.ask.new.desk) (g.C.Clock.gave c.ask.new.clock) c.ask.new.self.next in
    record {
      asked = deletes_step c.args.session c.loop-text.text-index _ c.loop-text.swept c.counted-swept.result
          c.args.due.now
          c.in_ok-ask.field-0 c.is_refused-refused.result x m y c.loop-text-test.true c.loop-text.invariant.asked
          c.in_ok-ask.ensures.ok c.is_refused-refused.ensures c.counted-swept.ensures;
      counted = counts _ _ _ c.is_refused-refused.result c.loop-text.invariant.counted c.counted-swept.ensures;
      opened = c.ask.ensures.open;
      on = g.met.K.Desk.goes_on_further _ _ _ c.loop-text.invariant.on c.ask.ensures.on;
    }

pub returns-in_err-ask-clause-err : goal.returns-in_err-ask-clause-err
returns-in_err-ask-clause-err g c =
    let x : Seen = sight (g.K.Desk.view c.args.desk.now) (g.C.Clock.gave c.args.clock.now) c.args.talk.now.next in
    let m : Seen = sight (g.K.Desk.view c.loop-text.desk) (g.C.Clock.gave c.loop-text.clock) c.loop-text.talk.next in
    let y : Seen = sight (g.K.Desk.view c.ask.new.desk) (g.C.Clock.gave c.ask.new.clock) c.ask.new.self.next in
    let p = err_from_is_err_and c.from_residual.result c.from_residual.ensures.1 in
    rw (p.1, p.2)
    (deletes_end c.args.session c.loop-text.text-index _ c.args.due.now c.loop-text.swept x m y c.loop-text-test.true
    c.loop-text.invariant.asked c.in_err-ask.ensures.err)

pub returns-clause-ok : goal.returns-clause-ok
returns-clause-ok g c =
    let x : Seen = sight (g.K.Desk.view c.args.desk.now) (g.C.Clock.gave c.args.clock.now) c.args.talk.now.next in
    let y : Seen = sight (g.K.Desk.view c.loop-text.desk) (g.C.Clock.gave c.loop-text.clock) c.loop-text.talk.next in
    deletes_all c.args.session c.loop-text.text-index c.args.due.now c.loop-text.swept x y c.loop-text-test.false
    c.loop-text.invariant.asked

-- ---- the session stays open, and the desk is the same

pub returns-in_err-ask-clause-ok : goal.returns-in_err-ask-clause-ok
returns-in_err-ask-clause-ok g c =
    let p = err_from_is_err_and c.from_residual.result c.from_residual.ensures.1 in rw (p.1) tt

pub returns-in_err-ask-clause-open : goal.returns-in_err-ask-clause-open
returns-in_err-ask-clause-open g c = c.ask.ensures.open

pub returns-in_err-ask-clause-on : goal.returns-in_err-ask-clause-on
returns-in_err-ask-clause-on g c = g.met.K.Desk.goes_on_further _ _ _ c.loop-text.invariant.on c.ask.ensures.on

pub returns-clause-err : goal.returns-clause-err
returns-clause-err g c = tt

pub returns-clause-open : goal.returns-clause-open
returns-clause-open g c = c.loop-text.invariant.opened

pub returns-clause-on : goal.returns-clause-on
returns-clause-on g c = c.loop-text.invariant.on
