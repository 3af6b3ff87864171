use Rattle.std.proofs.lemmas.Bool.{false≢true}
use Rattle.std.proofs.Common.{◌≡◌, ◌↔◌, ℕ, true, false, inl, inr, refl, sym, subst, ◌∙◌}
use Rattle.std.specs.Option.{IfSome}
use Rattle.std.specs.Prelude.{IsTrue, is_some}
use Rattle.kom_links.specs.Outside.{Rose}
use Rattle.kom_model.specs.Db.{Db}
use Rattle.kom_model.specs.State.{State, opening_state}
use Rattle.kom_journal.specs.Images.{Image, as_read, StandsFor}
use Rattle.store_check.specs.Stores.{IsNoStore, IfFound, IsWrong}
use Rattle.store_check.proofs.Causes.{of_content, unopened_wrong, found_so}
use Rattle.store_check.proofs.Content.{is_store}
use Rattle.kom_server.specs.Comes.{IsHidingRun}
use Rattle.kom_server.specs.Statuses.{IsWell, serve_over}
use Rattle.kom_server.specs.Stops.{HasServed, seen_of}
use Rattle.kom_server.proofs.Fitting.{served_fits, gate_alone}
use Rattle.kom_server.proofs.StoreRuns.{opened_from, asks_none, asks_on, over_serves, unbegun, not_held}
use Rattle.kom_server.proofs.store_runs.serve_store.Goals as goal

-- ---- the store was opened

pub returns-in-Ok-open-clause-asks : goal.returns-in-Ok-open-clause-asks
returns-in-Ok-open-clause-asks g c =
    asks_on c.args.port (is_some c.serve_opened.result.end) (is_some c.serve_opened.result.disk)
    (g.W.World.view c.args.world.now).counts _ _ c.serve_opened.ensures.opened.0 c.in-Ok.ensures.counts
    c.serve_opened.ensures.asks

pub returns-in-Ok-open-clause-cases : goal.returns-in-Ok-open-clause-cases
returns-in-Ok-open-clause-cases g c = c.serve_opened.ensures.cases

pub returns-in-Ok-open-clause-finds : goal.returns-in-Ok-open-clause-finds
returns-in-Ok-open-clause-finds g c =
    let image : Image = as_read g.W.Disk.Disk.bytes c.in-Ok.disk in
    let one : IfFound g.W.Disk.Disk.tells (g.W.World.view c.args.world.now).files c.args.path.now
    (λ image. IsNoStore image → ⊥) =
    found_so g.W.Disk.Disk.tells _ _ g.W.Disk.Disk.bytes c.in-Ok.disk _ (λ image. IsNoStore image → ⊥)
    c.in-Ok.ensures.found
    (λ told. is_store c.in-Ok-open.book.core.state.db image (c.in-Ok-open.ensures.was told)) in
    record {
      none = λ unfit. absurd (false≢true (sym c.serve_opened.ensures.opened.1 ∙ unfit));
      one = λ well. one;
      untouched = λ told holds. absurd (not_held g.W.Disk.Disk.tells _ _ one told holds);
    }

pub returns-in-Ok-open-clause-over : goal.returns-in-Ok-open-clause-over
returns-in-Ok-open-clause-over g c begun =
    let db : Db = c.in-Ok-open.book.core.state.db in
    let from : c.in-Ok-open.book.core.state ≡ opening_state db =
    opened_from c.in-Ok-open.book.core.state c.in-Ok-open.ensures.plain.opening in
    record {
      db = db;
      found = found_so g.W.Disk.Disk.tells _ _ g.W.Disk.Disk.bytes c.in-Ok.disk _ (StandsFor db)
          c.in-Ok.ensures.found c.in-Ok-open.ensures.was;
      does_so = subst (λ (state : State). IfSome c.serve_opened.result.end (IsHidingRun g.W.Gate.Link.Link.view
          c.args.port state (IsWell c.serve_opened.result.cases))) from c.serve_opened.ensures.run;
      left = subst (λ (state : State). IfSome c.serve_opened.result.disk (HasServed g.W.Disk.Disk state
          (seen_of c.serve_opened.result.end))) from c.serve_opened.ensures.left;
    }

-- ---- it was not

wrong : (g : _) (c : goal.After-refused g) → IsWrong c.refused.result.cases
wrong g c =
    unopened_wrong c.in-Err.fault c.refused.result.cases (g.W.Disk.Disk.faults c.in-Ok.disk)
    (g.W.Disk.Disk.faults c.in-Err.disk) (g.W.Disk.Disk.faults c.in-Err.disk) c.in-Ok.ensures.found.no_fault refl
    c.in-Err.ensures.fault c.refused.ensures.failed.1 c.refused.ensures.unfit c.refused.ensures.memory

pub returns-in-Err-clause-asks : goal.returns-in-Err-clause-asks
returns-in-Err-clause-asks g c =
    rw (c.refused.ensures.end, c.refused.ensures.disk) (asks_none c.args.port true _ _ c.in-Ok.ensures.counts)

pub returns-in-Err-clause-cases : goal.returns-in-Err-clause-cases
returns-in-Err-clause-cases g c =
    let names = (over_serves c.args.port).1 in
    let wrong = wrong g c in
    rw (c.refused.ensures.end, c.refused.ensures.disk)
    (served_fits g.W.Disk.Disk.faults (serve_over c.args.port) _ c.refused.result.cases _ _
    (over_serves c.args.port).0 (
      λ is. inl (c.refused.ensures.failed.0 is),
      λ either. elim either [ inl failed ↦ c.refused.ensures.failed.1 failed | inr refused ↦ absurd refused ],
    ) (gate_alone _ _ _ c.refused.ensures.gate
    (subst (λ (now : ℕ). IsTrue c.has_risen-in-Err.result ↔ Rose c.args.before now) c.faults-in-Err.ensures
    c.has_risen-in-Err.ensures)) (λ unfit. (names, refl)) (λ out. refl) (inl wrong)
    c.refused.ensures.unswept)

pub returns-in-Err-clause-finds : goal.returns-in-Err-clause-finds
returns-in-Err-clause-finds g c = record {
  none = λ is.
      found_so g.W.Disk.Disk.tells _ _ g.W.Disk.Disk.bytes c.in-Ok.disk _ IsNoStore c.in-Ok.ensures.found
      (λ told. of_content (as_read g.W.Disk.Disk.bytes c.in-Ok.disk) c.in-Err.fault (sym c.refused.ensures.unfit ∙ is)
      (c.in-Err.ensures.cause told));
  one = λ well. absurd (well (wrong g c));
  untouched = λ told holds. rw (c.refused.ensures.end, c.refused.ensures.disk) (refl, c.in-Ok.ensures.counts);
}

pub returns-in-Err-clause-over : goal.returns-in-Err-clause-over
returns-in-Err-clause-over g c begun =
    absurd (unbegun _ _ _ _ _ c.refused.ensures.end c.refused.ensures.disk c.in-Ok.ensures.counts begun)

-- ---- the disk was not

pub returns-in_default-clause-asks : goal.returns-in_default-clause-asks
returns-in_default-clause-asks g c =
    rw c.unopened.ensures (asks_none c.args.port false _ _ c.in_default.ensures.counts)

pub returns-in_default-clause-finds : goal.returns-in_default-clause-finds
returns-in_default-clause-finds g c =
    rw c.unopened.ensures (record {
      none = λ unfit. absurd (false≢true unfit);
      one = λ well. absurd (well refl);
      untouched = λ told holds. (refl, c.in_default.ensures.counts);
    })

pub returns-in_default-clause-over : goal.returns-in_default-clause-over
returns-in_default-clause-over g c =
    rw c.unopened.ensures
    (λ begun. elim begun [ inl is ↦ absurd (false≢true is) | inr both ↦ absurd (false≢true both.0) ])
