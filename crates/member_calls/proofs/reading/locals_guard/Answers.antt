use Rattle.std.proofs.Common.{◌∙◌, arith}
use Rattle.member_calls.proofs.LocalGuards.{above_zero, refused-end}
use Rattle.member_calls.proofs.reading.locals_guard.Goals as goal

pub returns-clause-above_zero : goal.returns-clause-above_zero
returns-clause-above_zero c =
    above_zero c.args.highest c.args.locals.now
    (c.loop-place.invariant ∙ refused-end c.args.highest c.args.locals.now c.loop-place.place
    (omega (arith, c.loop-place-test.false)))
