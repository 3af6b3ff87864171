use Rattle.std.proofs.Common.{◌+◌, ◌++◌, List, length, sym, subst}
use Rattle.kom_framing.specs.declared.units.Unit.{Unit as StreamUnit}
use Rattle.kom_framing.specs.Advancing.{Stands, Falls, begun_seen}
use Rattle.kom_framing.proofs.begun.follow_begun.Goals as goal

pub returns-in-Goes-clause-follows : goal.returns-in-Goes-clause-follows
returns-in-Goes-clause-follows c =
    let goes = rw c.in-Goes.is at c.in_ok-advance.ensures.advances in (
      λ e. goes.early,
      λ fed taken stands. subst (λ (us : List StreamUnit). Stands c.args.side us (begun_seen c.advance.new.begun)
          (c.args.place + length c.args.piece.now) (fed ++ c.args.piece.now) taken) (sym c.in_ok-advance.ensures.units)
          (goes.stands fed taken stands),
    )

pub returns-in-Fails-clause-follows : goal.returns-in-Fails-clause-follows
returns-in-Fails-clause-follows c =
    let fails = rw c.in-Fails.is at c.in_ok-advance.ensures.advances in (
      λ e. absurd cc,
      λ fed taken stands. subst
          (λ (us : List StreamUnit). Falls c.args.side us c.in-Fails.found (fed ++ c.args.piece.now) taken)
          (sym c.in_ok-advance.ensures.units) (fails.falls fed taken stands),
    )
