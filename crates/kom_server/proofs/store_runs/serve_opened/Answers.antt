use Rattle.std.proofs.Common.{◌↔◌, ℕ, inl, inr, refl, sym, ap, subst, ◌∙◌}
use Rattle.std.proofs.lemmas.Bool.{false≢true}
use Rattle.std.specs.Prelude.{IsTrue, is_some}
use Rattle.kom_journal.specs.Images.{images_at, moment}
use Rattle.kom_links.specs.Outside.{Rose}
use Rattle.kom_book.specs.Books.{LeadsOn, state_in}
use denote.Exit as exit
use denote.Param.Send.{param_send, arg_send}
use Rattle.kom_server.specs.Statuses.{serve_over}
use Rattle.kom_server.specs.Stops.{seen_of}
use Rattle.kom_server.proofs.Carried.{unless}
use Rattle.kom_server.proofs.Fitting.{served_fits, gate_either}
use Rattle.kom_server.proofs.Hiding.{hiding_run}
use Rattle.kom_server.proofs.Sending.{ticked_send}
use Rattle.kom_server.proofs.Stopping.{served_disk}
use Rattle.kom_server.proofs.StoreRuns.{some_then, both_some, wrong_or_so, wrong_or_served, marked_by, refused_end}
use Rattle.kom_server.proofs.StoreRuns.{store_there, disk_there, both_there, seen_leads, over_serves}
use Rattle.kom_server.proofs.store_runs.serve_opened.Goals as goal

pub returns-clause-opened : goal.returns-clause-opened
returns-clause-opened g c =
    let led = c.serve_at-left.ensures.led in (
      ap (λ disk. is_some disk) c.settle.ensures.disk
          ∙ disk_there c.serve_at-left.result.server
          ∙ both_there _ _ c.args.book.journal c.serve_at-left.result.server.journal led.1.0.store
          ∙ c.requires.open.0,
      c.settle.ensures.unfit,
    )

pub returns-clause-asks : goal.returns-clause-asks
returns-clause-asks g c = rw c.settle.ensures.end c.serve_at-left.ensures.asks

pub returns-clause-cases : goal.returns-clause-cases
returns-clause-cases g c =
    let led = c.serve_at-left.ensures.led in
    let there = ap (λ disk. is_some disk) c.settle.ensures.disk
    ∙ disk_there c.serve_at-left.result.server
    ∙ both_there _ _ c.args.book.journal c.serve_at-left.result.server.journal led.1.0.store
    ∙ c.requires.open.0 in
    let refused = refused_end c.serve_at-left.result.end (state_in c.serve_at-left.result.server).store_refused
    (some_then _ _ c.serve_at-left.result.end c.serve_at-left.ensures.leads
    (λ service led. marked_by g.W.Disk.Disk.faults c.args.book c.serve_at-left.result.server service.seen
    c.requires.open.1.opening.0 c.requires.open.1.opening.1 led.0)) in
    rw c.settle.ensures.end
    (served_fits g.W.Disk.Disk.faults (serve_over c.args.port) _ c.settle.result.cases c.settle.result.disk
    c.serve_at-left.result.end (over_serves c.args.port).0
    (store_there g.W.Disk.Disk.faults _ _ c.settle.result.disk c.serve_at-left.result.end there (
      λ is. elim (c.settle.ensures.store.0 is) [ inl has ↦ inl has | inr both ↦ inr (refused.0 both) ],
      λ either. c.settle.ensures.store.1 (elim either [ inl has ↦ inl has | inr has ↦ inr (refused.1 has) ]),
    ))
    (gate_either _ _ _ _ _ c.settle.ensures.gate c.serve_at-left.ensures.failed
    (subst (λ (now : ℕ). IsTrue c.has_risen.result ↔ Rose c.args.before now) c.faults.ensures c.has_risen.ensures))
    (λ unfit. absurd (false≢true (sym c.settle.ensures.unfit ∙ unfit))) c.settle.ensures.memory.0
    (wrong_or_served c.serve_at-left.result.end c.settle.result.cases c.settle.ensures.memory.1)
    c.settle.ensures.unswept)

pub returns-clause-run : goal.returns-clause-run
returns-clause-run g c =
    rw c.settle.ensures.end
    (some_then _ _ c.serve_at-left.result.end
    (both_some _ _ c.serve_at-left.result.end c.serve_at-left.ensures.served
    (both_some _ _ c.serve_at-left.result.end c.serve_at-left.ensures.gates
    (wrong_or_so _ c.serve_at-left.result.end c.serve_at-left.result.failed c.settle.result.cases
    (λ is. c.settle.ensures.gate.1 (inl is)) c.serve_at-left.ensures.over)))
    (λ service facts. hiding_run g.W.Gate.Link.Link.view c.args.port (state_in c.args.book) (state_in c.args.book) _
    service c.requires.open.1.opening refl facts.0 facts.1.0 (unless _ _ facts.1.1)))

pub returns-clause-left : goal.returns-clause-left
returns-clause-left g c =
    rw (c.settle.ensures.end, c.settle.ensures.disk)
    (served_disk g.W.Disk.Disk c.args.book c.serve_at-left.result.server (seen_of c.serve_at-left.result.end)
    c.requires.open.1 c.requires.stands
    (seen_leads (λ seen server. LeadsOn (moment g.W.Disk.Disk.moment) (images_at g.W.Disk.Disk.images_at)
    g.W.Disk.Disk.tells g.W.Disk.Disk.faults c.args.book seen server) c.serve_at-left.result.server
    c.serve_at-left.result.end c.serve_at-left.ensures.leads c.serve_at-left.ensures.unserved)
    c.settle.ensures.size)

pub serve_at-left-requires-send-B-Entry : goal.serve_at-left-requires-send-B-Entry
serve_at-left-requires-send-B-Entry g c κs within =
    param_send _ _ (arg_send _ exit.no _ (ticked_send _ g.W.Disk.Disk c.type_bounds.send-W-Disk))
