use Rattle.std.proofs.Common.{inl, inr, sym, ap, subst, ◌∙◌}
use Rattle.std.proofs.lemmas.Bool.{false≢true}
use Rattle.std.specs.Prelude.{is_some}
use Rattle.kom_journal.specs.Images.{images_at, moment}
use Rattle.kom_book.specs.Books.{LeadsOn, state_in}
use Rattle.kom_sweep.specs.declared.ends.SweepEnd.{SweepEnd}
use Rattle.store_check.proofs.Causes.{memory_wrong}
use Rattle.kom_server.specs.Stops.{seen_of}
use Rattle.kom_server.specs.Sweeps.{IsMetBy}
use Rattle.kom_server.proofs.Fitting.{sweep_fits}
use Rattle.kom_server.proofs.Stopping.{served_disk}
use Rattle.kom_server.proofs.StoreRuns.{some_then, both_some, marked_by, refused_end, store_there, disk_there}
use Rattle.kom_server.proofs.StoreRuns.{both_there, seen_leads}
use Rattle.kom_server.proofs.sweep_runs.sweep_opened.Goals as goal

pub returns-clause-opened : goal.returns-clause-opened
returns-clause-opened g c =
    let led = c.sweep_server-left.ensures.led in (
      ap (λ disk. is_some disk) c.settle-ran.ensures.disk
          ∙ disk_there c.sweep_server-left.result.0.server
          ∙ both_there _ _ c.args.book.journal c.sweep_server-left.result.0.server.journal led.1.0.store
          ∙ c.requires.open.0,
      c.tell-cases.ensures.well.0,
    )

pub returns-clause-asks : goal.returns-clause-asks
returns-clause-asks g c = rw c.settle-ran.ensures.end c.sweep_server-left.ensures.asks

pub returns-clause-cases : goal.returns-clause-cases
returns-clause-cases g c =
    let led = c.sweep_server-left.ensures.led in
    let there = ap (λ disk. is_some disk) c.settle-ran.ensures.disk
    ∙ disk_there c.sweep_server-left.result.0.server
    ∙ both_there _ _ c.args.book.journal c.sweep_server-left.result.0.server.journal led.1.0.store
    ∙ c.requires.open.0 in
    let refused = refused_end c.sweep_server-left.result.0.end
    (state_in c.sweep_server-left.result.0.server).store_refused
    (some_then _ _ c.sweep_server-left.result.0.end c.sweep_server-left.ensures.leads
    (λ service led. marked_by g.W.Disk.Disk.faults c.args.book c.sweep_server-left.result.0.server service.seen
    c.requires.open.1.opening.0 c.requires.open.1.opening.1 led.0)) in
    rw c.settle-ran.ensures.end
    (sweep_fits g.W.Disk.Disk.faults c.args.person _ c.tell-cases.result c.settle-ran.result.disk
    c.sweep_server-left.result.0.end
    (store_there g.W.Disk.Disk.faults _ _ c.settle-ran.result.disk c.sweep_server-left.result.0.end there
    (rw c.tell-cases.ensures.store (
      λ is. elim (c.settle-ran.ensures.store.0 is) [ inl has ↦ inl has | inr both ↦ inr (refused.0 both) ],
      λ either. c.settle-ran.ensures.store.1 (elim either [ inl has ↦ inl has | inr has ↦ inr (refused.1 has) ]),
    )))
    c.tell-cases.ensures.well.1 (λ unfit. absurd (false≢true (sym c.tell-cases.ensures.well.0 ∙ unfit)))
    (λ none.
    let met = subst
    (λ (ending : SweepEnd). IsMetBy ending c.tell-cases.result (g.W.Sink.Sink.view c.tell-cases.new.sink))
    (c.sweep_server-left.ensures.unswept none) c.tell-cases.ensures.met in
    (met.0, memory_wrong c.tell-cases.result met.1)))

pub returns-clause-swept : goal.returns-clause-swept
returns-clause-swept g c =
    rw c.settle-ran.ensures.end
    (some_then _ _ c.sweep_server-left.result.0.end
    (both_some _ _ c.sweep_server-left.result.0.end c.sweep_server-left.ensures.swept
    c.sweep_server-left.ensures.no_gate)
    (λ service facts. record {
      ending = c.sweep_server-left.result.1;
      run = facts.0;
      tells = c.tell-cases.ensures.met;
      no_gate = facts.1;
    }))

pub returns-clause-left : goal.returns-clause-left
returns-clause-left g c =
    rw (c.settle-ran.ensures.end, c.settle-ran.ensures.disk)
    (served_disk g.W.Disk.Disk c.args.book c.sweep_server-left.result.0.server
    (seen_of c.sweep_server-left.result.0.end) c.requires.open.1 c.requires.stands
    (seen_leads (λ seen server. LeadsOn (moment g.W.Disk.Disk.moment) (images_at g.W.Disk.Disk.images_at)
    g.W.Disk.Disk.tells g.W.Disk.Disk.faults c.args.book seen server) c.sweep_server-left.result.0.server
    c.sweep_server-left.result.0.end c.sweep_server-left.ensures.leads c.sweep_server-left.ensures.unserved)
    c.settle-ran.ensures.size)
