use Rattle.std.proofs.Common.{ap, length, ◌∙◌, arith}
use Rattle.memchr.proofs.lemmas.CallerLemmas.{length-places, length-places-le}
use Rattle.memchr.specs.Find.{is_byte}
use Rattle.kom_types.proofs.texts.lines_of.Goals as goal

pub overflow_add-lines : goal.overflow_add-lines
overflow_add-lines c = omega (arith, c.loop.invariant, length-places-le (is_byte 10) c.args.body.now)

pub returns : goal.returns
returns c =
    omega (arith, c.loop.invariant, ap length c.in-None.ensures.steps.0) ∙ length-places (is_byte 10) c.args.body.now
