use Rattle.std.proofs.Common.{◌≡◌, inl, inr, true, false, List, None, Err, sym, ap, ◌∙◌, subst}
use Rattle.kom_types.specs.declared.effects.Effect.{Effect}
use Rattle.kom_model.specs.Db.{Db, empty_db}
use Rattle.kom_model.specs.Effects.{IsProtected}
use Rattle.kom_model.specs.Whole.{IsWhole}
use Rattle.kom_model.specs.Initial.{initial_effects}
use Rattle.kom_model.specs.State.{opening_state}
use Rattle.kom_model.proofs.Opening.{IsProtected-initial, IsWhole-initial}
use Rattle.kom_disk.specs.Faults.{Rose}
use Rattle.batch_log.specs.declared.errors.FlushFault.TheVariants as flush
use Rattle.kom_journal.specs.Images.{AreFor, IsKept, images, moment}
use Rattle.kom_book.proofs.Flushing.{stays_calm}
use Rattle.kom_book.proofs.Openings.{first_pending, first_fits, first_rows, initial_is}
use Rattle.kom_book.proofs.starting.store_initial.Goals as goal

pub of-requires-clause-protected : goal.of-requires-clause-protected
of-requires-clause-protected g c =
    subst IsProtected (sym (c.in-Ok.ensures.rows ∙ initial_is c.args.password.now c.args.moment))
    (IsProtected-initial c.args.password.now c.args.moment)

pub of-requires-clause-whole : goal.of-requires-clause-whole
of-requires-clause-whole g c =
    subst IsWhole (sym (c.in-Ok.ensures.rows ∙ initial_is c.args.password.now c.args.moment))
    (IsWhole-initial c.args.password.now c.args.moment)

pub returns-in-Ok-flush-clause-core : goal.returns-in-Ok-flush-clause-core
returns-in-Ok-flush-clause-core g c =
    c.of.ensures.value
    ∙ ap (λ (db : Db). record { state = opening_state db; last = None })
    (c.in-Ok.ensures.rows ∙ initial_is c.args.password.now c.args.moment)

pub returns-in-Ok-flush-clause-unfailed : goal.returns-in-Ok-flush-clause-unfailed
returns-in-Ok-flush-clause-unfailed g c =
    let calm : c.initial_rows.new.keeper.refused ≡ false = c.initial_rows.ensures.rest.refused ∙ c.requires.calm in
    stays_calm c.initial_rows.new.keeper c.flush.new.self c.flush.result calm c.flush.ensures.refused c.in-Ok-flush.is
    ∙ calm

pub returns-in-Ok-flush-clause-rows : goal.returns-in-Ok-flush-clause-rows
returns-in-Ok-flush-clause-rows g c told stands =
    let effects : List Effect = initial_effects c.args.password.now c.args.moment in
    let is = first_pending effects c.args.store.now.pending c.initial_rows.new.keeper.pending c.requires.waits
    c.in-Ok.ensures.kept in
    subst (λ (db : Db). AreFor (images g.D.Disk.images c.flush.new.self.disk) db)
    (first_rows c.args.password.now c.args.moment c.initial_rows.new.keeper.pending is)
    (c.in-Ok-flush.ensures.rows told empty_db
    (subst (λ (disk : g.row.D.Denot). AreFor (images g.D.Disk.images disk) empty_db)
    (sym c.initial_rows.ensures.rest.disk)
    stands) (first_fits effects c.initial_rows.new.keeper.pending is))

pub returns-in-Ok-flush-clause-kept : goal.returns-in-Ok-flush-clause-kept
returns-in-Ok-flush-clause-kept g c told stands kept =
    let effects : List Effect = initial_effects c.args.password.now c.args.moment in
    let is = first_pending effects c.args.store.now.pending c.initial_rows.new.keeper.pending c.requires.waits
    c.in-Ok.ensures.kept in
    c.flush.ensures.kept told empty_db
    (subst (λ (disk : g.row.D.Denot). AreFor (images g.D.Disk.images disk) empty_db)
    (sym c.initial_rows.ensures.rest.disk)
    stands) (first_fits effects c.initial_rows.new.keeper.pending is)
    (subst (λ (disk : g.row.D.Denot). IsKept (images g.D.Disk.images disk)) (sym c.initial_rows.ensures.rest.disk) kept)

pub returns-in-Ok-flush-clause-no_cause : goal.returns-in-Ok-flush-clause-no_cause
returns-in-Ok-flush-clause-no_cause g c =
    c.in-Ok-flush.ensures.no_cause ∙ ap g.D.Disk.faults c.initial_rows.ensures.rest.disk

pub returns-in-Err-Fault-clause-cause : goal.returns-in-Err-Fault-clause-cause
returns-in-Err-Fault-clause-cause g c same =
    elim (c.flush.ensures.cause (c.in-Err-Fault.is ∙ ap (λ f. Err f) c.in-Err-Fault.field-0-is)) [
      | inl was ↦ absurd (let wrong : true ≡ false =
          sym was ∙ c.initial_rows.ensures.rest.refused ∙ c.requires.calm in cc)
      | inr rose ↦ subst (λ (disk : g.row.D.Denot). Rose (g.D.Disk.faults disk)
          (g.D.Disk.faults c.flush.new.self.disk)) c.initial_rows.ensures.rest.disk rose
    ]
