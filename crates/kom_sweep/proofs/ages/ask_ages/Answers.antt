use Rattle.std.proofs.Common.{[], refl, subst}
use Rattle.kom_types.specs.declared.texts.MiscInfo.{MiscInfo}
use Rattle.std.proofs.lemmas.Result.{err_from_is_err_and}
use Rattle.kom_sweep.specs.Acting.{Seen, sight}
use Rattle.kom_sweep.proofs.Aging.{AsksOne, ages_step, ages_end}
use Rattle.kom_sweep.proofs.Going.{goes_none}
use Rattle.kom_sweep.proofs.Judging.{tells-none}
use Rattle.kom_sweep.proofs.Walking.{breaks_on, none_children}
use Rattle.kom_sweep.proofs.ages.ask_ages.Goals as goal

pub loop-info-init : goal.loop-info-init
loop-info-init g c =
    let x : Seen = sight (g.K.Desk.view c.args.desk.now) (g.C.Clock.gave c.args.clock.now) c.args.talk.now.next in
    record {
      asked = ([], refl, goes_none c.args.session x, tells-none c.args.moment);
      opened = c.requires;
      on = g.met.K.Desk.goes_on_itself _;
    }

pub loop-info-preserved : goal.loop-info-preserved
loop-info-preserved g c =
    let x : Seen = sight (g.K.Desk.view c.args.desk.now) (g.C.Clock.gave c.args.clock.now) c.args.talk.now.next in
    let m : Seen = sight (g.K.Desk.view c.loop-info.desk) (g.C.Clock.gave c.loop-info.clock) c.loop-info.talk.next in
    let y : Seen =
    sight (g.K.Desk.view c.ask_age.new.desk) (g.C.Clock.gave c.ask_age.new.clock) c.ask_age.new.talk.next in
    record {
      asked = ages_step c.args.session c.args.moment c.args.infos.now c.loop-info.info-index c.info-item.result
          c.loop-info.ages
          c.in_ok-ages.ages x m y c.loop-info-test.true c.loop-info.invariant.asked
          (subst (λ (info : MiscInfo). AsksOne c.args.session c.args.moment m y info c.loop-info.ages c.in_ok-ages.ages)
          c.info-item.is c.in_ok-ages.ensures.ok);
      opened = c.ask_age.ensures.open;
      on = g.met.K.Desk.goes_on_further _ _ _ c.loop-info.invariant.on c.ask_age.ensures.on;
    }

pub returns-in_err-ages-clause-err : goal.returns-in_err-ages-clause-err
returns-in_err-ages-clause-err g c =
    let x : Seen = sight (g.K.Desk.view c.args.desk.now) (g.C.Clock.gave c.args.clock.now) c.args.talk.now.next in
    let m : Seen = sight (g.K.Desk.view c.loop-info.desk) (g.C.Clock.gave c.loop-info.clock) c.loop-info.talk.next in
    let y : Seen =
    sight (g.K.Desk.view c.ask_age.new.desk) (g.C.Clock.gave c.ask_age.new.clock) c.ask_age.new.talk.next in
    let asked = c.loop-info.invariant.asked in
    let p = err_from_is_err_and c.from_residual.result c.from_residual.ensures.1 in
    rw (p.1, p.2) (breaks_on x m y asked.2 (none_children asked.0) c.in_err-ages.ensures.err)

pub returns-clause-ok : goal.returns-clause-ok
returns-clause-ok g c =
    let x : Seen = sight (g.K.Desk.view c.args.desk.now) (g.C.Clock.gave c.args.clock.now) c.args.talk.now.next in
    let m : Seen = sight (g.K.Desk.view c.loop-info.desk) (g.C.Clock.gave c.loop-info.clock) c.loop-info.talk.next in
    ages_end c.args.session c.args.moment c.args.infos.now c.loop-info.info-index c.loop-info.ages x m
    c.loop-info-test.false c.loop-info.invariant.asked
