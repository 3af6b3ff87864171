use Rattle.std.proofs.Common.{◌≡◌, ◌+◌, arith}
use Rattle.kom_load.proofs.Going.{at-start, at-next, calls-next}
use Rattle.kom_load.proofs.loading.make_calls.Goals as goal

pub loop-run-init : goal.loop-run-init
loop-run-init c =
    at-start _ _ _ _ c.requires.new c.new-run.ensures c.in_ok-start.ensures.started c.in_ok-start.ensures.before
    c.in_ok-start.ensures.counted

pub loop-run-preserved : goal.loop-run-preserved
loop-run-preserved c =
    let next = c.in_ok-make_next.ensures in
    at-next _ _ _ _ _ c.loop-run.invariant c.loop-run-test.true next.called next.answered next.before next.refused
    next.counted

pub loop-run-smaller : goal.loop-run-smaller
loop-run-smaller c =
    let calls : c.make_next.new.run.calls ≡ c.loop-run.run.calls + 1 =
    calls-next _ _ _ c.in_ok-make_next.ensures.answered in
    omega (arith, calls)
