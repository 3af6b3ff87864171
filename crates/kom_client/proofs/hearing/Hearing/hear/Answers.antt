use Rattle.std.proofs.Common.{rules, refl, sym, ap}
use Rattle.std.proofs.lemmas.Result.{err_from_is_err_and}
use Rattle.kom_types.specs.declared.side.Side.TheVariants as side
use Rattle.kom_framing.specs.Splitting.{Splitting}
use Rattle.kom_client.proofs.Hearings.{hears_none, hears_on, hears_not, hears_unit}
use Rattle.kom_client.proofs.hearing.Hearing.hear.Goals as goal

pub loop-init : goal.loop-init
loop-init g c = record {
  can = search rules;
  finite = search rules;
  hears = hears_none c.args.self.now.splitter c.args.self.now.fault (g.L.Link.view c.args.link.now);
}

-- the next unit, and the fault that the splitter keeps
pub returns-in-Some-next_unit : goal.returns-in-Some-next_unit
returns-in-Some-next_unit g c =
    hears_unit c.in-Some-next_unit.unit c.loop.invariant.hears
    (sym (ap (λ (s : Splitting). s.fault) c.in-Some-next_unit.ensures.some))
    (λ fed taken at. c.in-Some-next_unit.ensures.at side.Server fed taken at)

-- the splitter holds no unit, and so is as it was
pub loop-preserved : goal.loop-preserved
loop-preserved g c = record {
  can = search rules;
  finite = search rules;
  hears =
      hears_on c.loop.invariant.hears
      (rw c.in-None-next_unit.ensures.unchanged at c.in_ok-hear_more-in-None-next_unit.ensures);
}

pub returns-in_err-hear_more-in-None-next_unit : goal.returns-in_err-hear_more-in-None-next_unit
returns-in_err-hear_more-in-None-next_unit g c =
    let p = err_from_is_err_and c.from_residual.result c.from_residual.ensures.1 in
    let none = c.in-None-next_unit.ensures.none.0 refl in
    rw (p.1, p.2)
    (hears_not c.in_err-hear_more-in-None-next_unit.field-0.0 c.loop.invariant.hears
    (λ fed taken h.
    (rw c.in-None-next_unit.ensures.unchanged at c.in_err-hear_more-in-None-next_unit.ensures) fed taken h none))
