use Rattle.std.proofs.Common.{◌≡◌, inl, inr, refl, sym, subst, ◌∙◌}
use Rattle.std.proofs.lemmas.Bool.{false≢true}
use Rattle.std.specs.Option.{IfSome}
use Rattle.std.specs.Prelude.{is_some}
use Rattle.kom_model.specs.Db.{Db}
use Rattle.kom_model.specs.State.{State, opening_state}
use Rattle.kom_journal.specs.Images.{Image, as_read, StandsFor}
use Rattle.store_check.specs.Stores.{IsNoStore, IfFound, IsWrong}
use Rattle.store_check.proofs.Causes.{of_content, unopened_wrong, found_so}
use Rattle.store_check.proofs.Content.{is_store}
use Rattle.kom_server.specs.Stops.{HasServed, seen_of}
use Rattle.kom_server.proofs.Comings.{ends_from}
use Rattle.kom_server.proofs.Fitting.{sweep_fits, sweep_there}
use Rattle.kom_server.proofs.StoreRuns.{opened_from, not_held, unbegun}
use Rattle.kom_server.proofs.SweepRuns.{clock_on}
use Rattle.kom_server.proofs.sweep_runs.sweep_store.Goals as goal

-- ---- the store was opened

pub returns-in-Ok-open-clause-asks : goal.returns-in-Ok-open-clause-asks
returns-in-Ok-open-clause-asks g c =
    clock_on (is_some c.sweep_opened.result.end) (is_some c.sweep_opened.result.disk)
    (g.W.World.view c.args.world.now).counts _ _ c.sweep_opened.ensures.opened.0 c.in-Ok.ensures.counts
    c.sweep_opened.ensures.asks

pub returns-in-Ok-open-clause-cases : goal.returns-in-Ok-open-clause-cases
returns-in-Ok-open-clause-cases g c before earlier =
    sweep_there g.W.Disk.Disk.faults c.args.person _ _ c.sweep_opened.result.cases c.sweep_opened.result.disk
    c.sweep_opened.result.end c.sweep_opened.ensures.opened.0 c.sweep_opened.ensures.cases

pub returns-in-Ok-open-clause-finds : goal.returns-in-Ok-open-clause-finds
returns-in-Ok-open-clause-finds g c =
    let image : Image = as_read g.W.Disk.Disk.bytes c.in-Ok.disk in
    let one : IfFound g.W.Disk.Disk.tells (g.W.World.view c.args.world.now).files c.args.path.now
    (λ image. IsNoStore image → ⊥) =
    found_so g.W.Disk.Disk.tells _ _ g.W.Disk.Disk.bytes c.in-Ok.disk _ (λ image. IsNoStore image → ⊥)
    c.in-Ok.ensures.found
    (λ told. is_store c.in-Ok-open.book.core.state.db image (c.in-Ok-open.ensures.was told)) in
    record {
      none = λ unfit. absurd (false≢true (sym c.sweep_opened.ensures.opened.1 ∙ unfit));
      one = λ well. one;
      untouched = λ told holds. absurd (not_held g.W.Disk.Disk.tells _ _ one told holds);
    }

pub returns-in-Ok-open-clause-swept : goal.returns-in-Ok-open-clause-swept
returns-in-Ok-open-clause-swept g c begun =
    let db : Db = c.in-Ok-open.book.core.state.db in
    let from : c.in-Ok-open.book.core.state ≡ opening_state db =
    opened_from c.in-Ok-open.book.core.state c.in-Ok-open.ensures.plain.opening in
    record {
      db = db;
      found = found_so g.W.Disk.Disk.tells _ _ g.W.Disk.Disk.bytes c.in-Ok.disk _ (StandsFor db)
          c.in-Ok.ensures.found c.in-Ok-open.ensures.was;
      does_so =
          ends_from c.args.person c.args.password.now _ _ _ _ _ c.sweep_opened.result.end c.in-Ok.ensures.told.moment
          from c.sweep_opened.ensures.swept;
      left = subst (λ (state : State). IfSome c.sweep_opened.result.disk (HasServed g.W.Disk.Disk state
          (seen_of c.sweep_opened.result.end))) from c.sweep_opened.ensures.left;
    }

-- ---- it was not

wrong : (g : _) (c : goal.After-refused g) → IsWrong c.refused.result.cases
wrong g c =
    unopened_wrong c.in-Err.fault c.refused.result.cases (g.W.Disk.Disk.faults c.in-Ok.disk)
    (g.W.Disk.Disk.faults c.in-Err.disk) (g.W.Disk.Disk.faults c.in-Err.disk) c.in-Ok.ensures.found.no_fault refl
    c.in-Err.ensures.fault c.refused.ensures.failed.1 c.refused.ensures.unfit c.refused.ensures.memory

pub returns-in-Err-clause-asks : goal.returns-in-Err-clause-asks
returns-in-Err-clause-asks g c =
    rw (c.refused.ensures.end, c.refused.ensures.disk) (inl c.in-Ok.ensures.counts)

pub returns-in-Err-clause-cases : goal.returns-in-Err-clause-cases
returns-in-Err-clause-cases g c before earlier =
    let wrong = wrong g c in
    rw (c.refused.ensures.end, c.refused.ensures.disk)
    (sweep_fits g.W.Disk.Disk.faults c.args.person _ c.refused.result.cases _ _ (
      λ is. inl (c.refused.ensures.failed.0 is),
      λ either. elim either [ inl failed ↦ c.refused.ensures.failed.1 failed | inr refused ↦ absurd refused ],
    ) c.refused.ensures.gate (λ unfit. refl) (λ none. (c.refused.ensures.unswept, wrong)))

pub returns-in-Err-clause-finds : goal.returns-in-Err-clause-finds
returns-in-Err-clause-finds g c = record {
  none = λ is.
      found_so g.W.Disk.Disk.tells _ _ g.W.Disk.Disk.bytes c.in-Ok.disk _ IsNoStore c.in-Ok.ensures.found
      (λ told. of_content (as_read g.W.Disk.Disk.bytes c.in-Ok.disk) c.in-Err.fault (sym c.refused.ensures.unfit ∙ is)
      (c.in-Err.ensures.cause told));
  one = λ well. absurd (well (wrong g c));
  untouched = λ told holds. rw (c.refused.ensures.end, c.refused.ensures.disk) (refl, c.in-Ok.ensures.counts);
}

pub returns-in-Err-clause-swept : goal.returns-in-Err-clause-swept
returns-in-Err-clause-swept g c begun =
    absurd (unbegun _ _ _ _ _ c.refused.ensures.end c.refused.ensures.disk c.in-Ok.ensures.counts begun)

-- ---- the disk was not

pub returns-in_default-clause-asks : goal.returns-in_default-clause-asks
returns-in_default-clause-asks g c = rw c.unopened.ensures (inl c.in_default.ensures.counts)

pub returns-in_default-clause-finds : goal.returns-in_default-clause-finds
returns-in_default-clause-finds g c =
    rw c.unopened.ensures (record {
      none = λ unfit. absurd (false≢true unfit);
      one = λ well. absurd (well refl);
      untouched = λ told holds. (refl, c.in_default.ensures.counts);
    })

pub returns-in_default-clause-swept : goal.returns-in_default-clause-swept
returns-in_default-clause-swept g c =
    rw c.unopened.ensures
    (λ begun. elim begun [ inl is ↦ absurd (false≢true is) | inr both ↦ absurd (false≢true both.0) ])
