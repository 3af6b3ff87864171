use Rattle.std.proofs.Common.{◌<◌, ◌+◌, List, ℕ, drop, refl, sym, ap, subst, ◌∙◌, arith}
use Rattle.std.specs.Prelude.{Result, Ok, Err, IfErr}
use Rattle.std.specs.Result.{IsErrAnd}
use Rattle.kom_model.specs.Db.{Db, empty_db}
use Rattle.batch_log.proofs.Looking.{unread, looks_on}
use Rattle.kom_journal.specs.Batch.{IsNext, EndsBefore, MakesBatch}
use Rattle.kom_journal.specs.Files.{header}
use Rattle.kom_journal.specs.Opened.{IsMadeTo}
use Rattle.kom_journal.specs.Opening.{IsCauseInFile}
use Rattle.kom_journal.proofs.Opens.{made_none, made_more, cause_there}
use Rattle.kom_journal.proofs.opening.make_rows.Goals as goal

pub gates-init : goal.gates-init
gates-init g c =
    let file = g.D.Disk.bytes c.args.disk.now in
    record {
      looks = record {
        same_size = refl;
        same_faults = refl;
        same_bytes = λ told. refl;
        stop = λ told. unread g.D.Disk.moment g.D.Disk.images g.D.Disk.images_at g.D.Disk.tells told
            (λ disk image. g.met.D.Disk.images_now disk image told) c.args.disk.now;
      };
      within = omega (arith, c.requires.long.0);
      counted = omega arith;
      room = c.in_ok-buffer.ensures.long;
      made = λ told. subst (λ (d : Db). IsMadeTo header empty_db 16 0 d file) (sym c.empty-rows.ensures)
          (made_none header empty_db 16 file (c.requires.header told)
          (omega (arith, c.requires.long.0, c.requires.long.1, g.met.D.Disk.counts_bytes c.args.disk.now told)));
    }

pub gates-preserved : goal.gates-preserved
gates-preserved g c =
    let kept = c.gates.invariant in
    let e = c.in_ok-size.ensures in
    let size = c.in-Batch.size in
    let start = c.args.disk.now in
    let mid = c.gates.disk in
    let file = g.D.Disk.bytes start in
    let ends : c.gates.at + (9 + size) < c.args.len = subst (EndsBefore c.gates.at c.args.len) c.in-Batch.is e.within in
    record {
      looks = record {
        same_size = e.size ∙ kept.looks.same_size;
        same_faults = e.no_fault ∙ kept.looks.same_faults;
        same_bytes = λ told. e.bytes told ∙ kept.looks.same_bytes told;
        stop = λ told. looks_on g.D.Disk.moment g.D.Disk.images g.D.Disk.images_at g.D.Disk.tells told
            (λ disk image. g.met.D.Disk.images_now disk image told) start mid c.make_batch.new.disk
            (kept.looks.stop told) (e.stop told);
      };
      within = ends;
      counted = omega (arith, kept.counted);
      room = e.room;
      made = λ told.
          let there : MakesBatch size (drop c.gates.at (g.D.Disk.bytes mid)) c.gates.rows.db c.make_batch.new.rows.db =
          subst (IsNext (drop c.gates.at (g.D.Disk.bytes mid)) c.gates.rows.db c.make_batch.new.rows.db) c.in-Batch.is
          (e.next told) in
          made_more header empty_db c.gates.at c.gates.batches size c.gates.rows.db c.make_batch.new.rows.db file
          (kept.made told)
          (subst (λ (b : List ℕ). MakesBatch size (drop c.gates.at b) c.gates.rows.db c.make_batch.new.rows.db)
          (kept.looks.same_bytes told) there);
    }

-- a refused batch leaves what the looks before it left
pub returns-in_err-size-clause-cause : goal.returns-in_err-size-clause-cause
returns-in_err-size-clause-cause g c = λ told.
    let file = g.D.Disk.bytes c.args.disk.now in
    let kept = c.gates.invariant in
    let cause : IsCauseInFile file c.in_err-size.field-0.0 =
    cause_there c.gates.at c.gates.batches c.gates.rows.db file _ c.in_err-size.field-0.0 (kept.made told)
    (ap (drop c.gates.at) (sym (kept.looks.same_bytes told))) (c.in_err-size.ensures.none told) in
    if_err c.from_residual-in_err-size.result _ (IsCauseInFile file) c.from_residual-in_err-size.ensures.1
    (λ why is. subst (IsCauseInFile file) (sym is) cause)
  where
    if_err : {X E : Type 0} (r : Result X E) (Q P : E → Type 0) → IsErrAnd r Q → ((e : E) → Q e → P e) → IfErr r P
    if_err (Ok x) Q P and all = tt
    if_err (Err e) Q P and all = all e and

pub returns-in_err-size-clause-stop : goal.returns-in_err-size-clause-stop
returns-in_err-size-clause-stop g c = λ told.
    looks_on g.D.Disk.moment g.D.Disk.images g.D.Disk.images_at g.D.Disk.tells told
    (λ disk image. g.met.D.Disk.images_now disk image told) c.args.disk.now c.gates.disk c.make_batch.new.disk
    (c.gates.invariant.looks.stop told) (c.in_err-size.ensures.stop told)

pub returns-in-End-clause-stop : goal.returns-in-End-clause-stop
returns-in-End-clause-stop g c = λ told.
    looks_on g.D.Disk.moment g.D.Disk.images g.D.Disk.images_at g.D.Disk.tells told
    (λ disk image. g.met.D.Disk.images_now disk image told) c.args.disk.now c.gates.disk c.make_batch.new.disk
    (c.gates.invariant.looks.stop told) (c.in_ok-size.ensures.stop told)
