use Rattle.std.proofs.Common.{arith, rules, subst, sym}
use Rattle.std.specs.List.{AllByRecursion}
use Rattle.kom_links.proofs.Gates.{all_pushed, all_turned}
use Rattle.kom_links.proofs.doors.open_port.Goals as goal

pub loop-count-preserved : goal.loop-count-preserved
loop-count-preserved g c = record {
  fresh = subst (AllByRecursion _) (sym c.push_reserved.ensures.items)
      (all_pushed _ _ _ c.loop-count.invariant.fresh (search rules));
  len = omega arith;
  room = omega arith;
}

pub returns-clause-fresh : goal.returns-clause-fresh
returns-clause-fresh g c =
    all_turned _ _ _
    (λ gate new. record { no_fault = new.1; none_given = tt; none_back = tt; not_ended = new.0 })
    c.loop-count.invariant.fresh
