use Rattle.std.proofs.Common.{◌↔◌, ℕ, [], inl, inr, None, refl, sym, ap, subst, ◌∙◌}
use Rattle.std.proofs.lemmas.Bool.{false≢true}
use Rattle.std.specs.Prelude.{IsTrue, is_some}
use Rattle.kom_model.specs.Initial.{initial}
use Rattle.kom_commands.specs.declared.words.Command.TheVariants as command
use Rattle.kom_book.specs.Stops.{records_of}
use Rattle.kom_links.specs.Outside.{Rose}
use Rattle.kom_serving.proofs.WholeRuns.{first_now}
use Rattle.kom_server.specs.Comes.{new_server}
use Rattle.kom_server.proofs.Carried.{unless, never_fails}
use Rattle.kom_server.proofs.Fitting.{served_fits, gate_either}
use Rattle.kom_server.proofs.Hiding.{hiding_run}
use Rattle.kom_server.proofs.Refusing.{has_refused}
use Rattle.kom_server.proofs.StoreRuns.{some_then, both_some, wrong_or_so, wrong_or_served, not_true, marked_by}
use Rattle.kom_server.proofs.StoreRuns.{never_refused, unstored, no_disk_failed, disk_there}
use Rattle.kom_server.proofs.running.once.Goals as goal

pub returns-clause-once : goal.returns-clause-once
returns-clause-once g c =
    let opened : ℕ = c.now-opened.result in
    rw c.settle.ensures.end
    (some_then _ _ c.serve_standard-left.result.end
    (both_some _ _ c.serve_standard-left.result.end c.serve_standard-left.ensures.served
    (both_some _ _ c.serve_standard-left.result.end c.serve_standard-left.ensures.first
    (both_some _ _ c.serve_standard-left.result.end c.serve_standard-left.ensures.leads
    (both_some _ _ c.serve_standard-left.result.end
    (wrong_or_so _ c.serve_standard-left.result.end c.serve_standard-left.result.failed c.settle.result.cases
    (λ is. c.settle.ensures.gate.1 (inl is)) c.serve_standard-left.ensures.ended)
    c.serve_standard-left.ensures.one_gate))))
    (λ service facts. record {
      opened = opened;
      first = facts.1.0 opened
          (first_now (g.W.Clock.Clock.gave c.in-Ok.clock) (g.W.Clock.Clock.gave c.now-opened.new.self) opened
          c.in-Ok.ensures.fresh c.now-opened.ensures.gains);
      run = hiding_run g.W.Gate.Link.Link.view None (new_server opened) c.in-Ok-fresh.book.core.state _ service
          c.in-Ok-fresh.ensures.plain.opening (sym c.in-Ok-fresh.ensures.state) facts.0 facts.1.1.1.1
          (unless _ _ facts.1.1.1.0);
      unrefused = λ has. false≢true (sym
          (never_refused g.W.Disk.Disk.faults c.in-Ok-fresh.book c.serve_standard-left.result.server service.seen
          c.in-Ok-fresh.ensures.store facts.1.1.0.0) ∙ has_refused (records_of service.seen) has);
    }))

pub returns-clause-cases : goal.returns-clause-cases
returns-clause-cases g c =
    let led = c.serve_standard-left.ensures.led in
    let none = unstored g.W.Disk.Disk.faults c.in-Ok-fresh.book c.serve_standard-left.result.server led.0
    c.in-Ok-fresh.ensures.store led.1.0 in
    let marked = marked_by g.W.Disk.Disk.faults c.in-Ok-fresh.book c.serve_standard-left.result.server led.0
    (initial [] c.now-opened.result) c.in-Ok-fresh.ensures.state led.1.0
    ∙ never_refused g.W.Disk.Disk.faults c.in-Ok-fresh.book c.serve_standard-left.result.server led.0
    c.in-Ok-fresh.ensures.store led.1.0 in
    let well = not_true c.settle.result.cases.store_failed (λ is. elim (c.settle.ensures.store.0 is) [
      | inl has ↦ no_disk_failed g.W.Disk.Disk.faults c.settle.result.disk c.serve_standard-left.result.server
          c.settle.ensures.disk none has
      | inr refused ↦ false≢true (sym marked ∙ refused.1)
    ]) in
    let no_disk = ap (λ disk. is_some disk) c.settle.ensures.disk ∙ disk_there c.serve_standard-left.result.server
    ∙ ap (λ journal. is_some journal) none in
    let unrefused = some_then _ _ c.serve_standard-left.result.end c.serve_standard-left.ensures.leads
    (λ service led has. false≢true (sym
    (never_refused g.W.Disk.Disk.faults c.in-Ok-fresh.book c.serve_standard-left.result.server service.seen
    c.in-Ok-fresh.ensures.store led.0) ∙ has_refused (records_of service.seen) has)) in
    rw c.settle.ensures.end
    (served_fits g.W.Disk.Disk.faults command.Once _ c.settle.result.cases c.settle.result.disk
    c.serve_standard-left.result.end refl
    (never_fails g.W.Disk.Disk.faults _ c.settle.result.cases.store_failed c.settle.result.disk
    c.serve_standard-left.result.end (λ named. false≢true named.0) well no_disk unrefused)
    (gate_either _ _ _ _ _ c.settle.ensures.gate c.serve_standard-left.ensures.failed
    (subst (λ (now : ℕ). IsTrue c.has_risen-2.result ↔ Rose c.args.before now) c.faults-2.ensures
    c.has_risen-2.ensures))
    (λ unfit. absurd (false≢true (sym c.settle.ensures.unfit ∙ unfit))) c.settle.ensures.memory.0
    (wrong_or_served c.serve_standard-left.result.end c.settle.result.cases c.settle.ensures.memory.1)
    c.settle.ensures.unswept)
