use Rattle.std.proofs.Common.{◌≡◌, ◌+◌, List, ℕ, [], ◌∷◌, ◌++◌, drop, inr, refl, ap, subst, ◌∙◌, arith}
use Rattle.batch_log.specs.Batches.{with_length}
use Rattle.batch_log.specs.Walk.{HasFirst, Stands}
use Rattle.kom_journal.specs.Opening.{IsUnfit}
use Rattle.kom_journal.specs.Reading.{MakesRows, part}
use Rattle.kom_journal.proofs.Reading.{first_body, rows_made}
use Rattle.kom_journal.proofs.opening.make_batch.Goals as goal

pub returns-in-Ok-make_body-clause-next : goal.returns-in-Ok-make_body-clause-next
returns-in-Ok-make_body-clause-next g c told =
    let file = g.D.Disk.bytes c.args.disk.now in
    let rest = drop c.args.at file in
    let first : HasFirst c.in-Batch.size rest =
    subst (Stands rest) c.in-Batch.is
    (c.in-Ok.ensures.found told (c.requires.within.1 ∙ g.met.D.Disk.counts_bytes c.args.disk.now told)) in
    let body : part (c.args.at + 9) (c.args.at + (9 + c.in-Batch.size)) (g.D.Disk.bytes c.look.new.disk) ≡ first.body =
    ap (part (c.args.at + 9) (c.args.at + (9 + c.in-Batch.size))) (c.look.ensures.bytes told)
    ∙ first_body c.args.at c.in-Batch.size file first in
    record {
      first = first;
      made = rows_made first.body c.args.rows.now.db c.make_body.new.maker.db
          (subst (λ (l : List ℕ). MakesRows c.args.rows.now.db c.make_body.new.maker.db l []) body
          (c.in-Ok-make_body.ensures.made told));
    }

pub returns-in-Err-Unfit-clause-none : goal.returns-in-Err-Unfit-clause-none
returns-in-Err-Unfit-clause-none g c told =
    let file = g.D.Disk.bytes c.args.disk.now in
    let rest = drop c.args.at file in
    let first : HasFirst c.in-Batch.size rest =
    subst (Stands rest) c.in-Batch.is
    (c.in-Ok.ensures.found told (c.requires.within.1 ∙ g.met.D.Disk.counts_bytes c.args.disk.now told)) in
    let body : part (c.args.at + 9) (c.args.at + (9 + c.in-Batch.size)) (g.D.Disk.bytes c.look.new.disk) ≡ first.body =
    ap (part (c.args.at + 9) (c.args.at + (9 + c.in-Batch.size))) (c.look.ensures.bytes told)
    ∙ first_body c.args.at c.in-Batch.size file first in
    let unfit = (rw c.in-Err-Unfit.field-0-is at c.in-Err-Unfit.ensures).unfit told refl in (
      refl,
      (
        with_length first.body ++ first.gate ∷ first.after,
        first.whole,
        inr (record {
          body = first.body;
          after = first.gate ∷ first.after;
          whole = refl;
          more = omega arith;
          short = omega (arith, first.counts, first.short);
          unfit = subst (IsUnfit c.args.rows.now.db) body unfit;
        }),
      ),
    )
