use Rattle.std.proofs.Common.{◌≡◌, refl, ◌∙◌, ap, subst, arith, ◌+◌, List, ℕ, Result, Ok, Err}
use Rattle.std.proofs.lemmas.Result.{err_from_is_err_and}
use Rattle.kom_disk.specs.Faults.{Rose}
use Rattle.batch_log.proofs.Looking.{unread, looks_on}
use Rattle.kom_journal.specs.Reading.{part}
use Rattle.kom_journal.proofs.Reading.{part_none}
use Rattle.kom_journal.proofs.bodies.make_body.Goals as goal

-- an error is the same beside whatever value there might have been
abbrev with_error : {X Y E : Type 0} → E → Result X E → Result Y E
with_error other (Ok value) = Err other
with_error other (Err error) = Err error

same_error : {X Y E : Type 0} (one other : E) → ◌≡◌ {A = Result X E} (Err one) (Err other) →
    ◌≡◌ {A = Result Y E} (Err one) (Err other)
same_error {X} {Y} {E} one other same = let f : Result X E → Result Y E = with_error other in ap f same

pub loop-at-init : goal.loop-at-init
loop-at-init g c = record {
  looks = record {
    same_size = refl;
    same_faults = refl;
    same_bytes = λ told. refl;
    stop = λ told. unread g.D.Disk.moment g.D.Disk.images g.D.Disk.images_at g.D.Disk.tells told
        (λ disk image. g.met.D.Disk.images_now disk image told) c.args.disk.now;
  };
  makes = record {
    within = c.requires.within.0;
    roomy = c.requires.room;
    made = λ told. g.met.M.BodyMaker.none c.args.maker.now
        (part c.args.from c.args.end (g.D.Disk.bytes c.args.disk.now));
  };
}

pub loop-at-preserved : goal.loop-at-preserved
loop-at-preserved g c =
    let kept = c.loop-at.invariant in
    let e = c.in_ok-used.ensures in
    let start = c.args.disk.now in
    let mid = c.loop-at.disk in
    let file = g.D.Disk.bytes start in
    record {
      looks = record {
        same_size = e.size ∙ kept.looks.same_size;
        same_faults = e.no_fault ∙ kept.looks.same_faults;
        same_bytes = λ told. e.bytes told ∙ kept.looks.same_bytes told;
        stop = λ told. looks_on g.D.Disk.moment g.D.Disk.images g.D.Disk.images_at g.D.Disk.tells told
            (λ disk image. g.met.D.Disk.images_now disk image told) start mid c.make_block.new.disk
            (kept.looks.stop told) (e.stop told);
      };
      makes = record {
        within = e.within;
        roomy = e.room;
        made = λ told. g.met.M.BodyMaker.in_turn c.args.maker.now c.loop-at.maker c.make_block.new.maker
            (part c.args.from c.args.end file) (part c.loop-at.at c.args.end file)
            (part (c.loop-at.at + c.in_ok-used.used) c.args.end file) (kept.makes.made told)
            (subst (λ (b : List ℕ). g.M.BodyMaker.makes c.loop-at.maker c.make_block.new.maker
            (part c.loop-at.at c.args.end b) (part (c.loop-at.at + c.in_ok-used.used) c.args.end b))
            (kept.looks.same_bytes told) (e.made told));
      };
    }

pub returns-in_err-used-clause-unfit : goal.returns-in_err-used-clause-unfit
returns-in_err-used-clause-unfit g c told =
    let kept = c.loop-at.invariant in
    let file = g.D.Disk.bytes c.args.disk.now in
    let p = err_from_is_err_and c.from_residual.result c.from_residual.ensures.1 in
    rw (p.1, p.2) (λ same.
    g.met.M.BodyMaker.later c.args.maker.now c.loop-at.maker (part c.args.from c.args.end file)
    (part c.loop-at.at c.args.end file) (kept.makes.made told)
    (subst (λ (b : List ℕ). g.M.BodyMaker.refuses c.loop-at.maker (part c.loop-at.at c.args.end b))
    (kept.looks.same_bytes told) (c.in_err-used.ensures.unfit told (same_error _ _ same))))

pub returns-in_err-used-clause-fault : goal.returns-in_err-used-clause-fault
returns-in_err-used-clause-fault g c =
    let p = err_from_is_err_and c.from_residual.result c.from_residual.ensures.1 in
    rw (p.1, p.2) (λ same.
    subst (λ (n : ℕ). Rose n (g.D.Disk.faults c.make_block.new.disk)) c.loop-at.invariant.looks.same_faults
    (c.in_err-used.ensures.fault (same_error _ _ same)))

pub returns-in_err-used-clause-stop : goal.returns-in_err-used-clause-stop
returns-in_err-used-clause-stop g c told =
    looks_on g.D.Disk.moment g.D.Disk.images g.D.Disk.images_at g.D.Disk.tells told
    (λ disk image. g.met.D.Disk.images_now disk image told) c.args.disk.now c.loop-at.disk c.make_block.new.disk
    (c.loop-at.invariant.looks.stop told) (c.make_block.ensures.stop told)

pub returns-clause-made : goal.returns-clause-made
returns-clause-made g c told =
    let kept = c.loop-at.invariant in
    let file = g.D.Disk.bytes c.args.disk.now in
    let last : c.loop-at.at ≡ c.args.end = omega (arith, kept.makes.within) in
    subst (λ (l : List ℕ). g.M.BodyMaker.makes c.args.maker.now c.loop-at.maker (part c.args.from c.args.end file) l)
    (ap (λ (n : ℕ). part n c.args.end file) last ∙ part_none c.args.end file) (kept.makes.made told)
