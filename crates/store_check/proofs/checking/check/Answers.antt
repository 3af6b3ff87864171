use Rattle.std.proofs.Common.{ℕ, List, Option, false, length, inl, inr, sym, subst, ◌∙◌}
use Rattle.kom_commands.specs.declared.cases.Cases.{Cases}
use Rattle.kom_commands.specs.Reports.{check_lines, HasText}
use Rattle.kom_links.specs.Doors.{SinkView}
use Rattle.kom_model.specs.Db.{Db}
use Rattle.kom_journal.specs.Images.{Image, as_read, StandsFor, HasCount}
use Rattle.store_check.specs.Stores.{IsNoStore, IsReported}
use Rattle.store_check.proofs.Causes.{of_content, unopened_wrong, wrong_or, untold_so, found_so}
use Rattle.store_check.proofs.Content.{is_store}
use Rattle.store_check.proofs.checking.check.Goals as goal

pub returns-in-Err-clause-unfit : goal.returns-in-Err-clause-unfit
returns-in-Err-clause-unfit g c is =
    found_so g.W.Disk.Disk.tells _ _ g.W.Disk.Disk.bytes c.in-Ok.disk _ IsNoStore c.in-Ok.ensures.found
    (λ told. of_content (as_read g.W.Disk.Disk.bytes c.in-Ok.disk) c.in-Err.fault (sym c.cases_of.ensures.unfit ∙ is)
    (c.in-Err.ensures.cause told))

pub returns-in-Err-clause-exact : goal.returns-in-Err-clause-exact
returns-in-Err-clause-exact g c =
    inl (unopened_wrong c.in-Err.fault c.cases_of.result (g.W.Disk.Disk.faults c.in-Ok.disk)
    (g.W.Disk.Disk.faults c.in-Err.disk) c.faults.result c.in-Ok.ensures.found.no_fault c.faults.ensures
    c.in-Err.ensures.fault c.cases_of.ensures.failed.1 c.cases_of.ensures.unfit c.cases_of.ensures.memory)

pub returns-in-Err-clause-reported : goal.returns-in-Err-clause-reported
returns-in-Err-clause-reported g c =
    inl (unopened_wrong c.in-Err.fault c.cases_of.result (g.W.Disk.Disk.faults c.in-Ok.disk)
    (g.W.Disk.Disk.faults c.in-Err.disk) c.faults.result c.in-Ok.ensures.found.no_fault c.faults.ensures
    c.in-Err.ensures.fault c.cases_of.ensures.failed.1 c.cases_of.ensures.unfit c.cases_of.ensures.memory)

pub returns-in-Ok-open-clause-exact : goal.returns-in-Ok-open-clause-exact
returns-in-Ok-open-clause-exact g c =
    let image : Image = as_read g.W.Disk.Disk.bytes c.in-Ok.disk in
    inr (found_so g.W.Disk.Disk.tells _ _ g.W.Disk.Disk.bytes c.in-Ok.disk _ (λ image. IsNoStore image → ⊥)
    c.in-Ok.ensures.found (λ told. is_store c.in-Ok-open.rows.db image (c.in-Ok-open.ensures.stands told)))

pub returns-in-Ok-open-clause-reported : goal.returns-in-Ok-open-clause-reported
returns-in-Ok-open-clause-reported g c =
    let files : Option (List ℕ → List ℕ) = (g.W.World.view c.args.world.now).files in
    let db : Db = c.in-Ok-open.rows.db in
    let sink : SinkView = g.W.Sink.Sink.view c.tell-told.new.sink in
    let says : ℕ → Type 0 =
    λ batches. HasText (check_lines batches (length db.conferences) (length db.persons) (length db.texts)) sink in
    let cases : Cases = record {
      store_failed = false;
      is_unfit = false;
      gate_failed = false;
      is_refused = false;
      is_given_up = false;
      no_memory = c.is_err.result;
    } in
    wrong_or c.tell-told.result cases (says c.batches.result)
    (IsReported g.W.Disk.Disk.tells files c.args.path.now sink) c.is_err.ensures.value c.tell-told.ensures.put
    (λ put. record {
      batches = c.in-Ok-open.journal.batches;
      db = db;
      counted = found_so g.W.Disk.Disk.tells files c.args.path.now g.W.Disk.Disk.bytes c.in-Ok.disk
          (g.W.Disk.Disk.faults c.in-Ok.disk) (HasCount c.in-Ok-open.journal.batches) c.in-Ok.ensures.found
          c.in-Ok-open.ensures.batches;
      stands = found_so g.W.Disk.Disk.tells files c.args.path.now g.W.Disk.Disk.bytes c.in-Ok.disk
          (g.W.Disk.Disk.faults c.in-Ok.disk) (StandsFor db) c.in-Ok.ensures.found c.in-Ok-open.ensures.stands;
      put = subst says c.batches.ensures put;
    })

pub returns-in-Ok-open-clause-silent : goal.returns-in-Ok-open-clause-silent
returns-in-Ok-open-clause-silent g c wrong =
    untold_so c.tell-told.result c.is_err.result _ c.is_err.ensures.value c.tell-told.ensures.untold wrong
