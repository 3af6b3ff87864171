use Rattle.std.proofs.Common.{◌≡◌, refl, sym, ap, subst}
use Rattle.std.specs.Prelude.{IsSome, IfSome}
use Rattle.kom_model.specs.Db.{Db}
use Rattle.kom_disk.specs.Faults.{Rose}
use Rattle.kom_journal.specs.Images.{StandsFor, AreFor, IsKept, IsCause, IsLeftOf, HasCount}
use Rattle.kom_journal.specs.Images.{as_read, images, images_at, moment}
use Rattle.kom_journal.specs.Opened.{Opens}
use Rattle.kom_journal.specs.declared.errors.OpenFault.TheVariants as fault
use Rattle.kom_journal.proofs.Images.{now_on}
use Rattle.kom_book.specs.Books.{IsPlain, StandsNow, disk_in, batches_in}
use Rattle.kom_book.proofs.Openings.{ok_of, err_of, match_of, stands_now}
use Rattle.kom_book.proofs.book.Book.open.Goals as goal

pub with_store-requires-clause-unmarked : goal.with_store-requires-clause-unmarked
with_store-requires-clause-unmarked g c = ap (λ core. core.state.store_refused) c.of.ensures.value

pub returns-in-Ok-clause-store : goal.returns-in-Ok-clause-store
returns-in-Ok-clause-store g c =
    ok_of c.with_store.result _ (λ book. IsSome book.journal) c.with_store.ensures.made refl

pub returns-in-Ok-clause-plain : goal.returns-in-Ok-clause-plain
returns-in-Ok-clause-plain g c =
    ok_of c.with_store.result _ IsPlain c.with_store.ensures.made (record {
      opening = (c.in-Ok.rows.db, ap (λ core. core.state) c.of.ensures.value, c.of.ensures.sound);
      waits = c.in-Ok.ensures.pending;
      whole = c.in-Ok.ensures.refused;
      refused = refl;
    })

pub returns-in-Ok-clause-was : goal.returns-in-Ok-clause-was
returns-in-Ok-clause-was g c told =
    ok_of c.with_store.result _ (λ book. StandsFor book.core.state.db (as_read g.D.Disk.bytes c.args.disk))
    c.with_store.ensures.made
    (subst (λ (db : Db). StandsFor db (as_read g.D.Disk.bytes c.args.disk))
    (sym (ap (λ core. core.state.db) c.of.ensures.value))
    (c.in-Ok.ensures.stands told))

pub returns-in-Ok-clause-stands : goal.returns-in-Ok-clause-stands
returns-in-Ok-clause-stands g c told =
    ok_of c.with_store.result _ (StandsNow (moment g.D.Disk.moment) (images_at g.D.Disk.images_at))
    c.with_store.ensures.made
    (stands_now (moment g.D.Disk.moment) (images_at g.D.Disk.images_at) (images g.D.Disk.images) c.in-Ok.store.disk
    c.of.result.state.db
    (λ disk image. now_on g.D.Disk.moment g.D.Disk.images_at g.D.Disk.images disk
    (λ bytes. g.met.D.Disk.images_now disk bytes told) image)
    (subst (λ (db : Db). AreFor (images g.D.Disk.images c.in-Ok.store.disk) db)
    (sym (ap (λ core. core.state.db) c.of.ensures.value)) (c.in-Ok.ensures.rows told)))

pub returns-in-Ok-clause-batches : goal.returns-in-Ok-clause-batches
returns-in-Ok-clause-batches g c told =
    ok_of c.with_store.result _ (λ book. HasCount (batches_in book) (as_read g.D.Disk.bytes c.args.disk))
    c.with_store.ensures.made (c.in-Ok.ensures.batches told)

pub returns-in-Ok-clause-cause : goal.returns-in-Ok-clause-cause
returns-in-Ok-clause-cause g c told =
    err_of c.with_store.result _ (λ refused. IsCause (as_read g.D.Disk.bytes c.args.disk) refused.1)
    c.with_store.ensures.memory tt

pub returns-in-Ok-clause-fault : goal.returns-in-Ok-clause-fault
returns-in-Ok-clause-fault g c =
    err_of c.with_store.result _ (λ refused. refused.1 ≡ fault.Fault →
    Rose (g.D.Disk.faults c.args.disk) (g.D.Disk.faults refused.0)) c.with_store.ensures.memory
    (λ same. absurd (let wrong : fault.Memory ≡ fault.Fault = same in cc))

pub returns-in-Ok-clause-no_fault : goal.returns-in-Ok-clause-no_fault
returns-in-Ok-clause-no_fault g c =
    ok_of c.with_store.result _ (λ book. IfSome (disk_in book) (λ opened.
    g.D.Disk.faults opened ≡ g.D.Disk.faults c.args.disk)) c.with_store.ensures.made c.in-Ok.ensures.no_fault

pub returns-in-Ok-clause-undamaged : goal.returns-in-Ok-clause-undamaged
returns-in-Ok-clause-undamaged g c told kept place =
    err_of c.with_store.result _ (λ refused. refused.1 ≡ fault.Damaged place → ⊥) c.with_store.ensures.memory
    (λ same. let wrong : fault.Memory ≡ fault.Damaged place = same in cc)

pub returns-in-Ok-clause-any_moment : goal.returns-in-Ok-clause-any_moment
returns-in-Ok-clause-any_moment g c told db stands kept =
    let file = as_read g.D.Disk.bytes c.args.disk in
    let moments = c.in-Ok.ensures.any_moment told db stands kept in
    match_of c.with_store.result _ _
    (λ book. IfSome (disk_in book) (λ opened. Opens (moment g.D.Disk.moment) (images_at g.D.Disk.images_at) c.args.disk
    opened
    (images g.D.Disk.images c.args.disk) (IsLeftOf file db)))
    (λ refused. Opens (moment g.D.Disk.moment) (images_at g.D.Disk.images_at) c.args.disk refused.0
    (images g.D.Disk.images c.args.disk) (IsLeftOf file db)) c.with_store.ensures.made c.with_store.ensures.memory
    moments moments

pub returns-in-Ok-clause-kept : goal.returns-in-Ok-clause-kept
returns-in-Ok-clause-kept g c told kept =
    let still = c.in-Ok.ensures.kept told kept in
    match_of c.with_store.result _ _
    (λ book. IfSome (disk_in book) (λ opened. IsKept (images g.D.Disk.images opened)))
    (λ refused. IsKept (images g.D.Disk.images refused.0)) c.with_store.ensures.made c.with_store.ensures.memory
    still still
