use Rattle.std.proofs.Common.{sym, true≢false}
use Rattle.noninterference.proofs.Places.{alike-long}
use Rattle.noninterference.proofs.worlds.are_alike.Goals as goal

pub returns-then-ones-others : goal.returns-then-ones-others
returns-then-ones-others c = (
  λ no. absurd (true≢false (sym no)),
  λ alike. absurd (c.if-ones-others.true
      (alike-long c.args.group.now c.args.ones.now c.args.others.now alike)),
)
