use Rattle.std.proofs.Common.{◌≡◌, ◌≢◌, ℕ, Err, refl, sym, ap, ◌∙◌, subst}
use Rattle.std.specs.Prelude.{IsSome, IfSome}
use Rattle.kom_model.specs.Db.{Db}
use Rattle.kom_model.specs.Initial.{initial}
use Rattle.kom_model.specs.State.{opening_state}
use Rattle.kom_disk.specs.Faults.{Rose}
use Rattle.kom_journal.specs.Images.{AreFor, IsKept, images, images_at, moment}
use Rattle.kom_journal.specs.Opening.{IsMakeFault}
use Rattle.kom_journal.specs.declared.errors.OpenFault.TheVariants as fault
use Rattle.kom_journal.proofs.Images.{now_on}
use Rattle.kom_book.specs.Books.{IsPlain, StandsNow, disk_in}
use Rattle.kom_book.proofs.Openings.{ok_of, err_of, stands_now}
use Rattle.kom_book.proofs.book.Book.init.Goals as goal

pub with_store-requires-clause-unmarked : goal.with_store-requires-clause-unmarked
with_store-requires-clause-unmarked g c = ap (λ core. core.state.store_refused) c.in-Ok-store_initial.ensures.core

pub returns-in-Ok-store_initial-clause-state : goal.returns-in-Ok-store_initial-clause-state
returns-in-Ok-store_initial-clause-state g c =
    ok_of c.with_store.result _ (λ book. book.core.state ≡ opening_state (initial c.args.password.now c.args.moment))
    c.with_store.ensures.made (ap (λ core. core.state) c.in-Ok-store_initial.ensures.core)

pub returns-in-Ok-store_initial-clause-store : goal.returns-in-Ok-store_initial-clause-store
returns-in-Ok-store_initial-clause-store g c =
    ok_of c.with_store.result _ (λ book. IsSome book.journal) c.with_store.ensures.made refl

pub returns-in-Ok-store_initial-clause-plain : goal.returns-in-Ok-store_initial-clause-plain
returns-in-Ok-store_initial-clause-plain g c =
    ok_of c.with_store.result _ IsPlain c.with_store.ensures.made (record {
      opening = (
        initial c.args.password.now c.args.moment,
        ap (λ core. core.state) c.in-Ok-store_initial.ensures.core,
        c.in-Ok-store_initial.ensures.sound,
      );
      waits = c.in-Ok-store_initial.ensures.emptied;
      whole = c.in-Ok-store_initial.ensures.unfailed;
      refused = refl;
    })

pub returns-in-Ok-store_initial-clause-stands : goal.returns-in-Ok-store_initial-clause-stands
returns-in-Ok-store_initial-clause-stands g c told =
    ok_of c.with_store.result _ (StandsNow (moment g.D.Disk.moment) (images_at g.D.Disk.images_at))
    c.with_store.ensures.made
    (stands_now (moment g.D.Disk.moment) (images_at g.D.Disk.images_at) (images g.D.Disk.images)
    c.store_initial.new.store.disk
    c.in-Ok-store_initial.core.state.db (λ disk image. now_on g.D.Disk.moment g.D.Disk.images_at g.D.Disk.images disk
    (λ bytes. g.met.D.Disk.images_now disk bytes told) image)
    (subst (λ (db : Db). AreFor (images g.D.Disk.images c.store_initial.new.store.disk) db)
    (sym (ap (λ core. core.state.db) c.in-Ok-store_initial.ensures.core))
    (c.in-Ok-store_initial.ensures.rows told (c.in-Ok.ensures.rows told))))

pub returns-in-Ok-store_initial-clause-rows : goal.returns-in-Ok-store_initial-clause-rows
returns-in-Ok-store_initial-clause-rows g c told =
    ok_of c.with_store.result _ (λ book. IfSome (disk_in book) (λ made.
    AreFor (images g.D.Disk.images made) (initial c.args.password.now c.args.moment))) c.with_store.ensures.made
    (c.in-Ok-store_initial.ensures.rows told (c.in-Ok.ensures.rows told))

pub returns-in-Ok-store_initial-clause-kept : goal.returns-in-Ok-store_initial-clause-kept
returns-in-Ok-store_initial-clause-kept g c told =
    ok_of c.with_store.result _ (λ book. IfSome (disk_in book) (λ made. IsKept (images g.D.Disk.images made)))
    c.with_store.ensures.made
    (c.in-Ok-store_initial.ensures.kept told (c.in-Ok.ensures.rows told) (c.in-Ok.ensures.kept told))

pub returns-in-Ok-store_initial-clause-new : goal.returns-in-Ok-store_initial-clause-new
returns-in-Ok-store_initial-clause-new g c told =
    ok_of c.with_store.result _ (λ book. g.D.Disk.size c.args.disk ≡ 0) c.with_store.ensures.made
    (c.in-Ok.ensures.new told)

pub returns-in-Ok-store_initial-clause-used : goal.returns-in-Ok-store_initial-clause-used
returns-in-Ok-store_initial-clause-used g c told n =
    err_of c.with_store.result _ (λ refused. refused.1 ≡ fault.Used n →
    (n ≢ 0) × (n ≡ g.D.Disk.size c.args.disk)) c.with_store.ensures.memory
    (λ same. absurd (let wrong : fault.Memory ≡ fault.Used n = same in cc))

pub returns-in-Ok-store_initial-clause-kinds : goal.returns-in-Ok-store_initial-clause-kinds
returns-in-Ok-store_initial-clause-kinds g c =
    err_of c.with_store.result _ (λ refused. IsMakeFault refused.1) c.with_store.ensures.memory tt

pub returns-in-Ok-store_initial-clause-cause : goal.returns-in-Ok-store_initial-clause-cause
returns-in-Ok-store_initial-clause-cause g c =
    err_of c.with_store.result _ (λ refused. refused.1 ≡ fault.Fault →
    Rose (g.D.Disk.faults c.args.disk) (g.D.Disk.faults refused.0)) c.with_store.ensures.memory
    (λ same. absurd (let wrong : fault.Memory ≡ fault.Fault = same in cc))

pub returns-in-Ok-store_initial-clause-no_cause : goal.returns-in-Ok-store_initial-clause-no_cause
returns-in-Ok-store_initial-clause-no_cause g c =
    ok_of c.with_store.result _ (λ book. IfSome (disk_in book) (λ made.
    g.D.Disk.faults made ≡ g.D.Disk.faults c.args.disk)) c.with_store.ensures.made
    (c.in-Ok-store_initial.ensures.no_cause ∙ c.in-Ok.ensures.no_cause)

pub returns-in-Err-store_initial-clause-used : goal.returns-in-Err-store_initial-clause-used
returns-in-Err-store_initial-clause-used g c told n same =
    absurd (c.store_initial.ensures.unused n (c.in-Err-store_initial.is ∙ ap (λ f. Err f) same))

pub returns-in-Err-store_initial-clause-kinds : goal.returns-in-Err-store_initial-clause-kinds
returns-in-Err-store_initial-clause-kinds g c = c.in-Err-store_initial.ensures.kinds

pub returns-in-Err-store_initial-clause-cause : goal.returns-in-Err-store_initial-clause-cause
returns-in-Err-store_initial-clause-cause g c same =
    subst (λ (disk : g.row.D.Denot). Rose (g.D.Disk.faults c.args.disk) (g.D.Disk.faults disk))
    (sym c.into_disk.ensures.disk)
    (subst (λ (n : ℕ). Rose n (g.D.Disk.faults c.store_initial.new.store.disk)) c.in-Ok.ensures.no_cause
    (c.store_initial.ensures.cause (c.in-Err-store_initial.is ∙ ap (λ f. Err f) same)))
