use Rattle.std.proofs.Common.{sym, ap, subst}
use Rattle.hall_desk.specs.Acts.{IsOpening}
use Rattle.kom_serving.proofs.WholeRuns.{sole}
use Rattle.kom_server.proofs.SweepRuns.{sweep_from}
use Rattle.kom_server.proofs.sweeping.sweep_server.Goals as goal

pub sweep_alone-ending-requires-clause-opening : goal.sweep_alone-ending-requires-clause-opening
sweep_alone-ending-requires-clause-opening g c =
    subst (λ value. IsOpening (g.B.Acts.server value)) (sym c.in-Ok-make.ensures.hall.0) c.requires.opening

pub returns-clause-swept : goal.returns-clause-swept
returns-clause-swept g c =
    rw (sole c.push_reserved.new.self.items c.in-Ok-with_capacity.clocks.items c.sweep_alone-ending.new.clock
    c.push_reserved.ensures.items c.in-Ok-with_capacity.ensures.items)
    (sweep_from _ _ _ _ _ _ _ _ _ _ (ap g.B.Acts.server c.in-Ok-make.ensures.hall.0) c.in-Ok.ensures.first
    c.sweep_alone-ending.ensures.run)

pub returns-clause-leads : goal.returns-clause-leads
returns-clause-leads g c =
    subst (λ value. g.B.Booked.led value c.sweep_alone-ending.result.2.seen c.sweep_alone-ending.result.1)
    c.in-Ok-make.ensures.hall.0 c.sweep_alone-ending.ensures.led

pub returns-clause-led : goal.returns-clause-led
returns-clause-led g c = (
  c.sweep_alone-ending.result.2.seen,
  subst (λ value. g.B.Booked.led value c.sweep_alone-ending.result.2.seen c.sweep_alone-ending.result.1)
      c.in-Ok-make.ensures.hall.0 c.sweep_alone-ending.ensures.led,
)
