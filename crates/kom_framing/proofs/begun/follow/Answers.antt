use Rattle.kom_framing.specs.Advancing.{begun_seen}
use Rattle.kom_framing.proofs.Fed.{lines_pass}
use Rattle.kom_framing.proofs.begun.follow.Goals as goal

pub returns-then-all-clause-follows : goal.returns-then-all-clause-follows
returns-then-all-clause-follows c =
    let adds = c.in_ok-all.ensures.all c.if-all.true in (
      λ e. adds.early,
      λ fed taken stands. lines_pass c.args.side c.args.units.now.items c.add_all.new.units.items
          (begun_seen c.args.begun.now) c.args.place c.args.piece.now fed taken (c.has_begun.ensures c.if-has_begun.false)
          adds stands,
    )
