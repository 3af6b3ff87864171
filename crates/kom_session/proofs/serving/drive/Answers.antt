use Rattle.std.proofs.Common.{rules}
use Rattle.kom_session.specs.Known.{known_by, state, sight}
use Rattle.kom_session.proofs.Asking.{asked_none, asked_trans}
use Rattle.kom_session.proofs.Going.{goes_same, goes_trans}
use Rattle.kom_session.proofs.serving.drive.Goals as goal

pub returns-in_default-clause-over : goal.returns-in_default-clause-over
returns-in_default-clause-over g c = c.out_of_memory.ensures.over

pub returns-in_default-clause-goes : goal.returns-in_default-clause-goes
returns-in_default-clause-goes g c =
    c.out_of_memory.ensures.still
    (sight (g.K.Desk.view c.args.desk.now) (g.L.Link.view c.args.link.now)
    (g.C.Clock.gave c.args.clock.now))

pub loop-init : goal.loop-init
loop-init g c = record {
  can = search rules;
  finite = search rules;
  goes = goes_same _;
  asked = asked_none (g.L.Link.view c.args.link.now).reads (g.K.Desk.view c.args.desk.now).answers;
  on = g.met.K.Desk.goes_on_itself _;
}

pub returns-then-eq-clause-over : goal.returns-then-eq-clause-over
returns-then-eq-clause-over g c = c.wants-wanted.ensures.over (search rules)

pub step-requires-clause-on : goal.step-requires-clause-on
step-requires-clause-on g c = c.wants-wanted.ensures.on (search rules)

pub step-requires-clause-can : goal.step-requires-clause-can
step-requires-clause-can g c =
    (c.requires.can.0, c.loop.invariant.goes.kept c.requires.can.0 c.requires.can.1)

pub loop-preserved : goal.loop-preserved
loop-preserved g c =
    let first = state (known_by c.args.machine.now) (sight (g.K.Desk.view c.args.desk.now)
    (g.L.Link.view c.args.link.now) (g.C.Clock.gave c.args.clock.now)) in
    let mid = state (known_by c.loop.machine) (sight (g.K.Desk.view c.loop.desk)
    (g.L.Link.view c.loop.link) (g.C.Clock.gave c.loop.clock)) in
    let last = state (known_by c.step.new.machine) (sight (g.K.Desk.view c.step.new.desk)
    (g.L.Link.view c.step.new.link) (g.C.Clock.gave c.step.new.clock)) in
    record {
      can = search rules;
      finite = search rules;
      goes = goes_trans c.loop.invariant.goes c.step.ensures.goes;
      asked = asked_trans first mid last c.loop.invariant.asked c.step.ensures.asked;
      on = g.met.K.Desk.goes_on_further _ _ _ c.loop.invariant.on c.step.ensures.on;
    }
