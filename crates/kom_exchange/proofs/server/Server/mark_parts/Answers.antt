use Rattle.kom_exchange.proofs.Going.{marks_more}
use Rattle.kom_exchange.proofs.server.Server.mark_parts.Goals as goal

pub returns-in_err-marks : goal.returns-in_err-marks
returns-in_err-marks g c =
    marks_more c.args.parts.now c.loop-part.part-index _ c.args.self.now c.loop-part.self c.mark_own.new.self
    c.loop-part.invariant c.loop-part-test.true c.mark_own.ensures

pub loop-part-preserved : goal.loop-part-preserved
loop-part-preserved g c =
    marks_more c.args.parts.now c.loop-part.part-index _ c.args.self.now c.loop-part.self c.mark_own.new.self
    c.loop-part.invariant c.loop-part-test.true c.mark_own.ensures
