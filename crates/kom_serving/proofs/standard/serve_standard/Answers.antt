use Rattle.std.proofs.Common.{inl, inr, refl, sym, ap, subst}
use Rattle.hall_desk.specs.Acts.{IsOpening}
use Rattle.kom_state_lock.proofs.Ready.{ready_every, ready_free}
use Rattle.kom_serving.proofs.NewPasses.{closed_unused}
use Rattle.kom_serving.proofs.WholeRuns.{sole, run_from}
use Rattle.kom_serving.proofs.standard.serve_standard.Goals as goal

pub close-server-requires-clause-every : goal.close-server-requires-clause-every
close-server-requires-clause-every g c =
    ready_every c.in-Ok-make.made.0 c.in-Ok-make.made.1.items c.in-Ok-make.ensures.ready

pub close-server-requires-clause-free : goal.close-server-requires-clause-free
close-server-requires-clause-free g c =
    ready_free c.in-Ok-make.made.0 c.in-Ok-make.made.1.items c.in-Ok-make.ensures.ready

pub serve_alone-failed-requires-clause-opening : goal.serve_alone-failed-requires-clause-opening
serve_alone-failed-requires-clause-opening g c =
    subst (λ value. IsOpening (g.B.Acts.server value)) (sym c.in-Ok-make.ensures.hall.0) c.requires.opening

-- no act was made on a hall whose gate was refused
pub returns-in_default-std_gate-clause-unserved : goal.returns-in_default-std_gate-clause-unserved
returns-in_default-std_gate-clause-unserved g c none =
    rw c.unserved-in_default-std_gate.ensures
    (closed_unused g.B.Booked.pass_of g.B.Booked.led c.in-Ok-make.made.0 c.in-Ok-make.made.1.items 2
    c.close-server.result.1 c.args.server c.close-server.result.0 c.in-Ok-make.ensures.hall.1
    c.in-Ok-make.ensures.passes c.close-server.ensures.closed c.close-server.ensures.others
    c.in-Ok-make.ensures.hall.0 c.close-server.ensures.leads)

-- the one gate and the one clock
pub returns-clause-served : goal.returns-clause-served
returns-clause-served g c =
    let gates = sole c.push_reserved.new.self.items c.in-Ok.gates.items c.serve_alone-failed.new.gate
    c.push_reserved.ensures.items c.in-Ok.ensures.items in
    let clocks = sole c.push_reserved-2.new.self.items c.in-Ok-with_capacity.clocks.items
    c.serve_alone-failed.new.clock c.push_reserved-2.ensures.items c.in-Ok-with_capacity.ensures.items in
    rw (gates, clocks)
    (run_from g.W.Gate.Link.Link.view _ _ _ _ _ _ (ap g.B.Acts.server c.in-Ok-make.ensures.hall.0)
    c.serve_alone-failed.ensures.run)

pub returns-clause-first : goal.returns-clause-first
returns-clause-first g c first is =
    let clocks = sole c.push_reserved-2.new.self.items c.in-Ok-with_capacity.clocks.items
    c.serve_alone-failed.new.clock c.push_reserved-2.ensures.items c.in-Ok-with_capacity.ensures.items in
    rw clocks (c.serve_alone-failed.ensures.first first is)

pub returns-clause-leads : goal.returns-clause-leads
returns-clause-leads g c =
    subst (λ value. g.B.Booked.led value c.serve_alone-failed.result.2.seen c.serve_alone-failed.result.1)
    c.in-Ok-make.ensures.hall.0 c.serve_alone-failed.ensures.led

pub returns-clause-led : goal.returns-clause-led
returns-clause-led g c = (
  c.serve_alone-failed.result.2.seen,
  subst (λ value. g.B.Booked.led value c.serve_alone-failed.result.2.seen c.serve_alone-failed.result.1)
      c.in-Ok-make.ensures.hall.0 c.serve_alone-failed.ensures.led,
)

pub returns-clause-one_gate : goal.returns-clause-one_gate
returns-clause-one_gate g c =
    let gates = sole c.push_reserved.new.self.items c.in-Ok.gates.items c.serve_alone-failed.new.gate
    c.push_reserved.ensures.items c.in-Ok.ensures.items in
    rw gates refl

pub returns-clause-failed : goal.returns-clause-failed
returns-clause-failed g c =
    let gates = sole c.push_reserved.new.self.items c.in-Ok.gates.items c.serve_alone-failed.new.gate
    c.push_reserved.ensures.items c.in-Ok.ensures.items in
    rw gates (
      λ is. inl (c.serve_alone-failed.ensures.failed.0 is),
      λ has. elim has [ inl risen ↦ c.serve_alone-failed.ensures.failed.1 risen | inr none ↦ absurd none ],
    )

pub returns-clause-ended : goal.returns-clause-ended
returns-clause-ended g c is =
    let gates = sole c.push_reserved.new.self.items c.in-Ok.gates.items c.serve_alone-failed.new.gate
    c.push_reserved.ensures.items c.in-Ok.ensures.items in
    rw gates (c.serve_alone-failed.ensures.ended is, tt)
