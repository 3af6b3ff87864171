use Rattle.std.proofs.Common.{◌≡◌, ◌↔◌, IsTrue, Bool, List, map, sym, ap, subst, ◌∙◌, true, arith}
use Rattle.std.proofs.lemmas.Bool.{false≢true}
use Rattle.std.proofs.lemmas.List.{length-map}
use Rattle.hall_desk.specs.Acts.{IsOpening}
use Rattle.kom_links.specs.declared.world_counts.WorldCounts.{WorldCounts}
use Rattle.kom_links.specs.WorldCounts.{with_port}
use Rattle.kom_state_lock.proofs.Ready.{ready_every, ready_free}
use Rattle.kom_links.specs.Doors.{GateView}
use Rattle.kom_serving.specs.Runs.{HasFailed}
use Rattle.kom_serving.proofs.NewPasses.{closed_unused}
use Rattle.kom_serving.proofs.WholeRuns.{run_from}
use Rattle.kom_serving.proofs.Overs.{over_of, all_viewed}
use Rattle.kom_serving.proofs.ports.serve_port.Goals as goal

pub close-server-requires-clause-every : goal.close-server-requires-clause-every
close-server-requires-clause-every g c =
    ready_every c.in-Ok-make.made.0 c.in-Ok-make.made.1.items c.in-Ok-make.ensures.ready

pub close-server-requires-clause-free : goal.close-server-requires-clause-free
close-server-requires-clause-free g c =
    ready_free c.in-Ok-make.made.0 c.in-Ok-make.made.1.items c.in-Ok-make.ensures.ready

pub close-server-requires-in_default-open_at-clause-every :
    goal.close-server-requires-in_default-open_at-clause-every
close-server-requires-in_default-open_at-clause-every g c =
    ready_every c.in-Ok-make.made.0 c.in-Ok-make.made.1.items c.in-Ok-make.ensures.ready

pub close-server-requires-in_default-open_at-clause-free :
    goal.close-server-requires-in_default-open_at-clause-free
close-server-requires-in_default-open_at-clause-free g c =
    ready_free c.in-Ok-make.made.0 c.in-Ok-make.made.1.items c.in-Ok-make.ensures.ready

-- no act was made on a hall for which memory or the gates were refused
pub returns-in_default-new-clause-unserved : goal.returns-in_default-new-clause-unserved
returns-in_default-new-clause-unserved g c none =
    rw c.unserved-in_default-new.ensures
    (closed_unused g.B.Booked.pass_of g.B.Booked.led c.in-Ok-make.made.0 c.in-Ok-make.made.1.items _
    c.close-server.result.1 c.args.server c.close-server.result.0 c.in-Ok-make.ensures.hall.1
    c.in-Ok-make.ensures.passes c.close-server.ensures.closed c.close-server.ensures.others
    c.in-Ok-make.ensures.hall.0 c.close-server.ensures.leads)

pub returns-in_default-open_at-clause-unserved : goal.returns-in_default-open_at-clause-unserved
returns-in_default-open_at-clause-unserved g c none =
    rw c.unserved-in_default-open_at.ensures
    (closed_unused g.B.Booked.pass_of g.B.Booked.led c.in-Ok-make.made.0 c.in-Ok-make.made.1.items _
    c.close-server-in_default-open_at.result.1 c.args.server c.close-server-in_default-open_at.result.0
    c.in-Ok-make.ensures.hall.1 c.in-Ok-make.ensures.passes c.close-server-in_default-open_at.ensures.closed
    c.close-server-in_default-open_at.ensures.others c.in-Ok-make.ensures.hall.0
    c.close-server-in_default-open_at.ensures.leads)

pub serve_all-server-requires-clause-opening : goal.serve_all-server-requires-clause-opening
serve_all-server-requires-clause-opening g c κs within =
    subst (λ value. IsOpening (g.B.Acts.server value)) (sym c.in-Ok-make.ensures.hall.0) c.requires.opening

pub serve_all-server-requires-clause-fresh : goal.serve_all-server-requires-clause-fresh
serve_all-server-requires-clause-fresh g c κs within = c.in-Ok-open_at.ensures.fresh

pub serve_all-server-requires-clause-passes : goal.serve_all-server-requires-clause-passes
serve_all-server-requires-clause-passes g c κs within =
    omega (arith, c.in-Ok-make.ensures.hall.1, c.in-Ok-open_at.ensures.number)

pub returns-clause-asks : goal.returns-clause-asks
returns-clause-asks g c =
    c.in-Ok-open_at.ensures.counts ∙ ap (λ (counts : WorldCounts). with_port true counts) c.in-Ok.ensures.asks

pub returns-clause-served : goal.returns-clause-served
returns-clause-served g c =
    run_from g.W.Gate.Link.Link.view _ _ _ _ _ _ (ap g.B.Acts.server c.in-Ok-make.ensures.hall.0)
    c.serve_all-server.ensures.run

pub returns-clause-leads : goal.returns-clause-leads
returns-clause-leads g c =
    subst (λ value. g.B.Booked.led value c.serve_all-server.result.1.seen c.serve_all-server.result.0)
    c.in-Ok-make.ensures.hall.0 c.serve_all-server.ensures.leads

pub returns-clause-led : goal.returns-clause-led
returns-clause-led g c = (
  c.serve_all-server.result.1.seen,
  subst (λ value. g.B.Booked.led value c.serve_all-server.result.1.seen c.serve_all-server.result.0)
      c.in-Ok-make.ensures.hall.0 c.serve_all-server.ensures.leads,
)

pub returns-clause-gates : goal.returns-clause-gates
returns-clause-gates g c =
    length-map c.serve_all-server.new.gates.items g.W.Gate.Gate.view
    ∙ omega (arith, c.serve_all-server.ensures.number, c.in-Ok-open_at.ensures.number)

-- it was asked of all gates whether they failed
failed : {X L : Type 0} (view : X → GateView L) (told : Bool) (gates asked : List X) → asked ≡ gates →
    (IsTrue told ↔ HasFailed (map (λ gate. view gate) asked)) →
    (IsTrue told ↔ HasFailed (map (λ gate. view gate) gates))
failed {X} view told gates asked same so =
    subst (λ (all : List X). IsTrue told ↔ HasFailed (map (λ gate. view gate) all)) same so

pub returns-clause-failed : goal.returns-clause-failed
returns-clause-failed g c =
    failed g.W.Gate.Gate.view c.have_failed-failed.result c.serve_all-server.new.gates.items _
    c.as_slice.ensures.value c.have_failed-failed.ensures

pub returns-clause-over : goal.returns-clause-over
returns-clause-over g c none =
    let same : g.B.Acts.server c.in-Ok-make.made.0.opening ≡ g.B.Acts.server c.args.server =
    ap g.B.Acts.server c.in-Ok-make.ensures.hall.0 in
    rw (sym same)
    (over_of _ _ _ (all_viewed g.W.Gate.Gate.view _ c.serve_all-server.new.gates.items c.serve_all-server.ensures.done)
    (λ some. false≢true (sym none ∙ (failed g.W.Gate.Gate.view c.have_failed-failed.result
    c.serve_all-server.new.gates.items _ c.as_slice.ensures.value c.have_failed-failed.ensures).1 some)))
