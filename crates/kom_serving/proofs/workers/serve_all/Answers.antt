use Rattle.std.proofs.Common.{◌≡◌, ℕ, List, Option, length, map, drop, All, refl, sym, ap, subst, ◌∙◌, arith}
use Rattle.std.specs.Prelude.{IsSome}
use Rattle.std.specs.List.{AllByRecursion}
use Rattle.kom_links.specs.Doors.{GateView, IsNewGate}
use Rattle.kom_state_lock.specs.Passes.{PassModel, IsClosed}
use Rattle.kom_state_lock.proofs.Ready.{ready_table, ready_every, ready_free}
use Rattle.kom_serving.specs.Runs.{IsFirstReading, IsDone, IsRun}
use Rattle.kom_serving.specs.Workers.{WorkerView, AreIdle, gates_of, readings_of}
use Rattle.kom_serving.proofs.Rows.{idle_row, all_dealt, have_passes, all_mapped, all_unmapped, lent, whole, keep_first}
use Rattle.kom_serving.proofs.WorkerRuns.{run_of_all}
use Rattle.kom_serving.proofs.workers.serve_all.Goals as goal

pub work_together-requires-clause-idle : goal.work_together-requires-clause-idle
work_together-requires-clause-idle g c κs within =
    subst (λ (row : List (WorkerView g.row.B.Denot g.row.B-Entry.Denot g.row.G-Link.Denot)). AreIdle c.args.hall row)
    (sym c.as_mut_slice.ensures.value)
    (idle_row c.args.hall c.gather.new.row.items c.args.passes.items c.pop.new.self.items c.unwrap-own.result
    c.requires.new
    (all_dealt c.args.passes.items c.pop.new.self.items c.pop.result c.unwrap-own.result c.pop.ensures.items
    c.unwrap-own.ensures)
    c.gather.ensures.passes (map (λ gate. g.G.Gate.view gate) c.args.gates.now.items) c.gather.ensures.gates
    (all_mapped (λ gate. g.G.Gate.view gate) IsNewGate c.args.gates.now.items c.requires.fresh))

pub scatter-requires-clause-some : goal.scatter-requires-clause-some
scatter-requires-clause-some g c =
    let seam = lent c.gather.new.row.len c.work_together.new.workers
    (drop (length c.work_together.new.workers) c.gather.new.row.items)
    (omega (arith, c.as_mut_slice.ensures.len, c.work_together.auto.workers)) in
    subst (λ (row : List (WorkerView g.row.B.Denot g.row.B-Entry.Denot g.row.G-Link.Denot)).
    AllByRecursion (λ worker. IsSome worker.pass) row) (sym seam)
    (have_passes g.B.Acts.made g.G.Link.Link.view (g.B.Acts.server c.args.hall.opening) c.args.hall
    c.work_together.new.workers c.work_together.ensures.served)

pub close-requires-clause-hall : goal.close-requires-clause-hall
close-requires-clause-hall g c =
    let whole = whole g.B.Acts.made g.G.Link.Link.view (g.B.Acts.server c.args.hall.opening) c.args.hall
    c.gather.new.row.items
    c.work_together.new.workers (drop (length c.work_together.new.workers) c.gather.new.row.items) c.gather.new.row.len
    c.args.passes.items c.pop.new.self.items c.scatter.new.passes.items c.push_reserved.new.self.items c.pop.result
    c.unwrap-own.result c.requires.new c.pop.ensures.items c.unwrap-own.ensures c.gather.ensures.passes
    c.work_together.ensures.served (omega (arith, c.as_mut_slice.ensures.len, c.work_together.auto.workers))
    (omega (arith, c.requires.some, c.requires.passes, c.work_together.ensures.served.long)) c.scatter.ensures.passes
    c.push_reserved.ensures.items in
    ready_table c.args.hall c.push_reserved.new.self.items whole.2

pub close-requires-clause-every : goal.close-requires-clause-every
close-requires-clause-every g c =
    let whole = whole g.B.Acts.made g.G.Link.Link.view (g.B.Acts.server c.args.hall.opening) c.args.hall
    c.gather.new.row.items
    c.work_together.new.workers (drop (length c.work_together.new.workers) c.gather.new.row.items) c.gather.new.row.len
    c.args.passes.items c.pop.new.self.items c.scatter.new.passes.items c.push_reserved.new.self.items c.pop.result
    c.unwrap-own.result c.requires.new c.pop.ensures.items c.unwrap-own.ensures c.gather.ensures.passes
    c.work_together.ensures.served (omega (arith, c.as_mut_slice.ensures.len, c.work_together.auto.workers))
    (omega (arith, c.requires.some, c.requires.passes, c.work_together.ensures.served.long)) c.scatter.ensures.passes
    c.push_reserved.ensures.items in
    ready_every c.args.hall c.push_reserved.new.self.items whole.2

pub close-requires-clause-free : goal.close-requires-clause-free
close-requires-clause-free g c =
    let whole = whole g.B.Acts.made g.G.Link.Link.view (g.B.Acts.server c.args.hall.opening) c.args.hall
    c.gather.new.row.items
    c.work_together.new.workers (drop (length c.work_together.new.workers) c.gather.new.row.items) c.gather.new.row.len
    c.args.passes.items c.pop.new.self.items c.scatter.new.passes.items c.push_reserved.new.self.items c.pop.result
    c.unwrap-own.result c.requires.new c.pop.ensures.items c.unwrap-own.ensures c.gather.ensures.passes
    c.work_together.ensures.served (omega (arith, c.as_mut_slice.ensures.len, c.work_together.auto.workers))
    (omega (arith, c.requires.some, c.requires.passes, c.work_together.ensures.served.long)) c.scatter.ensures.passes
    c.push_reserved.ensures.items in
    ready_free c.args.hall c.push_reserved.new.self.items whole.2

pub returns-clause-run : goal.returns-clause-run
returns-clause-run g c =
    let seam = lent c.gather.new.row.len c.work_together.new.workers
    (drop (length c.work_together.new.workers) c.gather.new.row.items)
    (omega (arith, c.as_mut_slice.ensures.len, c.work_together.auto.workers)) in
    let whole = whole g.B.Acts.made g.G.Link.Link.view (g.B.Acts.server c.args.hall.opening) c.args.hall
    c.gather.new.row.items
    c.work_together.new.workers (drop (length c.work_together.new.workers) c.gather.new.row.items) c.gather.new.row.len
    c.args.passes.items c.pop.new.self.items c.scatter.new.passes.items c.push_reserved.new.self.items c.pop.result
    c.unwrap-own.result c.requires.new c.pop.ensures.items c.unwrap-own.ensures c.gather.ensures.passes
    c.work_together.ensures.served (omega (arith, c.as_mut_slice.ensures.len, c.work_together.auto.workers))
    (omega (arith, c.requires.some, c.requires.passes, c.work_together.ensures.served.long)) c.scatter.ensures.passes
    c.push_reserved.ensures.items in
    -- the bound holds in each thread, and in this one
    let acts = g.met.B.Acts g.world.𝓛 g.world.𝓜 g.world.𝓡 ((λ s x. x), (λ x. x), (λ x. x), λ x. x) in
    let both = run_of_all g.B.Acts.made g.B.Acts.server g.B.Booked.pass_of g.B.Booked.led acts.names acts.leads
    g.G.Link.Link.view c.args.hall c.close.result.0 c.close.result.1 c.requires.opening c.close.ensures.leads
    c.work_together.new.workers c.scatter.new.passes.items c.unwrap-own.result c.work_together.ensures.served whole.1
    (subst (λ (passes : List (PassModel g.row.B.Denot g.row.B-Entry.Denot)).
    All (IsClosed g.B.Booked.pass_of c.close.result.1) passes) c.push_reserved.ensures.items c.close.ensures.closed)
    whole.0 c.close.ensures.others in
    let gates : map (λ gate. g.G.Gate.view gate) c.scatter.new.gates.items ≡ gates_of c.work_together.new.workers =
    c.scatter.ensures.gates
    ∙ ap (λ (row : List (WorkerView g.row.B.Denot g.row.B-Entry.Denot g.row.G-Link.Denot)). gates_of row) seam in
    let clocks : map (λ clock. g.C.Clock.gave clock) c.scatter.new.clocks.items
    ≡ readings_of c.work_together.new.workers =
    c.scatter.ensures.clocks
    ∙ ap (λ (row : List (WorkerView g.row.B.Denot g.row.B-Entry.Denot g.row.G-Link.Denot)). readings_of row) seam in
    subst (λ (gates : List (GateView g.row.G-Link.Denot)).
    IsRun g.G.Link.Link.view (g.B.Acts.server c.args.hall.opening) (map g.B.Acts.made c.close.result.1.seen)
    c.close.result.1.drawn gates (map (λ clock. g.C.Clock.gave clock) c.scatter.new.clocks.items)) (sym gates)
    (subst (λ (readings : List (Option (List ℕ))).
    IsRun g.G.Link.Link.view (g.B.Acts.server c.args.hall.opening) (map g.B.Acts.made c.close.result.1.seen)
    c.close.result.1.drawn (gates_of c.work_together.new.workers) readings) (sym clocks) both.0)

pub returns-clause-first : goal.returns-clause-first
returns-clause-first g c moment first =
    let seam = lent c.gather.new.row.len c.work_together.new.workers
    (drop (length c.work_together.new.workers) c.gather.new.row.items)
    (omega (arith, c.as_mut_slice.ensures.len, c.work_together.auto.workers)) in
    let before : readings_of c.as_mut_slice.result.now ≡ map (λ clock. g.C.Clock.gave clock) c.args.clocks.now.items =
    ap (λ (row : List (WorkerView g.row.B.Denot g.row.B-Entry.Denot g.row.G-Link.Denot)). readings_of row)
    c.as_mut_slice.ensures.value ∙ c.gather.ensures.clocks in
    let after : map (λ clock. g.C.Clock.gave clock) c.scatter.new.clocks.items
    ≡ readings_of c.work_together.new.workers =
    c.scatter.ensures.clocks
    ∙ ap (λ (row : List (WorkerView g.row.B.Denot g.row.B-Entry.Denot g.row.G-Link.Denot)). readings_of row) seam in
    let same : length c.as_mut_slice.result.now ≡ length c.work_together.new.workers =
    omega (arith, c.work_together.auto.workers) in
    subst (λ (readings : List (Option (List ℕ))). IsFirstReading moment readings) (sym after)
    (keep_first c.as_mut_slice.result.now c.work_together.new.workers same c.work_together.ensures.first moment
    (subst (λ (readings : List (Option (List ℕ))). IsFirstReading moment readings) (sym before) first))

pub returns-clause-done : goal.returns-clause-done
returns-clause-done g c =
    let seam = lent c.gather.new.row.len c.work_together.new.workers
    (drop (length c.work_together.new.workers) c.gather.new.row.items)
    (omega (arith, c.as_mut_slice.ensures.len, c.work_together.auto.workers)) in
    let whole = whole g.B.Acts.made g.G.Link.Link.view (g.B.Acts.server c.args.hall.opening) c.args.hall
    c.gather.new.row.items
    c.work_together.new.workers (drop (length c.work_together.new.workers) c.gather.new.row.items) c.gather.new.row.len
    c.args.passes.items c.pop.new.self.items c.scatter.new.passes.items c.push_reserved.new.self.items c.pop.result
    c.unwrap-own.result c.requires.new c.pop.ensures.items c.unwrap-own.ensures c.gather.ensures.passes
    c.work_together.ensures.served (omega (arith, c.as_mut_slice.ensures.len, c.work_together.auto.workers))
    (omega (arith, c.requires.some, c.requires.passes, c.work_together.ensures.served.long)) c.scatter.ensures.passes
    c.push_reserved.ensures.items in
    -- the bound holds in each thread, and in this one
    let acts = g.met.B.Acts g.world.𝓛 g.world.𝓜 g.world.𝓡 ((λ s x. x), (λ x. x), (λ x. x), λ x. x) in
    let both = run_of_all g.B.Acts.made g.B.Acts.server g.B.Booked.pass_of g.B.Booked.led acts.names acts.leads
    g.G.Link.Link.view c.args.hall c.close.result.0 c.close.result.1 c.requires.opening c.close.ensures.leads
    c.work_together.new.workers c.scatter.new.passes.items c.unwrap-own.result c.work_together.ensures.served whole.1
    (subst (λ (passes : List (PassModel g.row.B.Denot g.row.B-Entry.Denot)).
    All (IsClosed g.B.Booked.pass_of c.close.result.1) passes) c.push_reserved.ensures.items c.close.ensures.closed)
    whole.0 c.close.ensures.others in
    let gates : map (λ gate. g.G.Gate.view gate) c.scatter.new.gates.items ≡ gates_of c.work_together.new.workers =
    c.scatter.ensures.gates
    ∙ ap (λ (row : List (WorkerView g.row.B.Denot g.row.B-Entry.Denot g.row.G-Link.Denot)). gates_of row) seam in
    all_unmapped (λ gate. g.G.Gate.view gate)
    (λ gate. IsDone (g.B.Acts.server c.args.hall.opening) (map g.B.Acts.made c.close.result.1.seen) gate)
    c.scatter.new.gates.items
    (subst (λ (gates : List (GateView g.row.G-Link.Denot)).
    AllByRecursion (λ gate. IsDone (g.B.Acts.server c.args.hall.opening) (map g.B.Acts.made c.close.result.1.seen) gate)
    gates) (sym gates) both.1)

pub returns-clause-free : goal.returns-clause-free
returns-clause-free g c = rw c.close.ensures.own.1 refl
