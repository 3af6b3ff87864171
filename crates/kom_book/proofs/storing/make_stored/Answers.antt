use Rattle.std.proofs.Common.{◌≡◌, false, Some, None, refl, sym, ap, ◌∙◌}
use Rattle.std.specs.Prelude.{is_some, IsTrue}
use Rattle.kom_types.specs.declared.acts.Act.TheVariants as act
use Rattle.kom_journal.proofs.Images.{now_on}
use Rattle.kom_book.proofs.ActsMade.{kept_comes, kept_leaves}
use Rattle.kom_book.proofs.StoreSteps.{within_limit}
use Rattle.kom_book.proofs.Flushing.{flush_refused, flush_possible, flush_takes, stays_calm, flush_cause}
use Rattle.kom_book.proofs.Flushing.{taken_comes, taken_leaves, refused_comes, refused_leaves, is_one, none_of}
use Rattle.kom_journal.specs.Images.{images, images_at, moment}
use Rattle.kom_journal.specs.Staying.{itself}
use Rattle.kom_book.proofs.storing.make_stored.Goals as goal

pub returns-then-not-is_flush-clause-comes : goal.returns-then-not-is_flush-clause-comes
returns-then-not-is_flush-clause-comes g c =
    kept_comes g.D.Disk.faults c.make_kept.result c.args.core.now c.make_kept.new.self c.args.store.now
    c.make_kept.new.keeper c.args.refused.now c.args.entry.now
    (λ is. let there : IsTrue c.is_flush.result = c.is_flush.ensures.1 is in cc)
    c.make_kept.ensures.comes c.make_kept.ensures.kept c.make_kept.ensures.rest

pub returns-then-not-is_flush-clause-stops : goal.returns-then-not-is_flush-clause-stops
returns-then-not-is_flush-clause-stops g c told =
    kept_leaves (moment g.D.Disk.moment) (images_at g.D.Disk.images_at) c.make_kept.result c.args.core.now
    c.make_kept.new.self c.args.store.now c.make_kept.new.keeper c.args.refused.now c.args.entry.now
    (λ is. let there : IsTrue c.is_flush.result = c.is_flush.ensures.1 is in cc)
    c.make_kept.ensures.comes c.make_kept.ensures.kept c.make_kept.ensures.rest

pub returns-then-is_some-clause-comes : goal.returns-then-is_some-clause-comes
returns-then-is_some-clause-comes g c =
    let flush : c.args.entry.now.act ≡ act.Flush = is_one c.is_flush.result c.args.entry.now.act c.is_flush.ensures
    c.if-not-is_flush.false in (
      record { state = refl; refused = refl; store = (itself c.args.store.now, refl) },
      flush_refused c.args.core.now.state c.args.entry.now flush
          (c.requires.marked ∙ sym c.is_some.ensures ∙ c.if-is_some.true),
    )

pub returns-then-is_some-clause-taken : goal.returns-then-is_some-clause-taken
returns-then-is_some-clause-taken g c =
    flush_takes c.args.core.now.state c.args.entry.now c.clear.new.self.items
    (is_one c.is_flush.result c.args.entry.now.act c.is_flush.ensures c.if-not-is_flush.false) c.clear.ensures

pub returns-in-Ok-clause-comes : goal.returns-in-Ok-clause-comes
returns-in-Ok-clause-comes g c =
    let flush : c.args.entry.now.act ≡ act.Flush = is_one c.is_flush.result c.args.entry.now.act c.is_flush.ensures
    c.if-not-is_flush.false in
    let none : c.args.refused.now ≡ None = none_of c.args.refused.now
    (sym c.is_some.ensures ∙ c.if-is_some.false) in
    let calm : c.args.store.now.refused ≡ false = c.requires.whole none in
    taken_comes g.D.Disk.faults c.make_kept-in-Ok.result c.args.core.now c.make_kept-in-Ok.new.self c.args.store.now
    c.flush.new.self c.args.refused.now c.args.entry.now flush (c.requires.marked ∙ ap is_some none)
    c.make_kept-in-Ok.ensures.comes c.in-Ok.ensures.emptied c.flush.ensures.nothing c.flush.ensures.batches
    c.in-Ok.ensures.no_cause
    (stays_calm c.args.store.now c.flush.new.self c.flush.result calm c.flush.ensures.refused c.in-Ok.is)
    (within_limit c.args.store.now c.flush.result calm c.flush.ensures.full c.in-Ok.is)

pub returns-in-Ok-clause-stops : goal.returns-in-Ok-clause-stops
returns-in-Ok-clause-stops g c told =
    let flush : c.args.entry.now.act ≡ act.Flush = is_one c.is_flush.result c.args.entry.now.act c.is_flush.ensures
    c.if-not-is_flush.false in
    let none : c.args.refused.now ≡ None = none_of c.args.refused.now
    (sym c.is_some.ensures ∙ c.if-is_some.false) in
    taken_leaves (moment g.D.Disk.moment) (images_at g.D.Disk.images_at) (images g.D.Disk.images)
    c.make_kept-in-Ok.result c.args.core.now
    c.make_kept-in-Ok.new.self c.args.store.now c.flush.new.self c.args.refused.now c.args.entry.now flush
    (c.requires.marked ∙ ap is_some none) c.make_kept-in-Ok.ensures.comes
    (λ disk image. now_on g.D.Disk.moment g.D.Disk.images_at g.D.Disk.images disk
    (λ bytes. g.met.D.Disk.images_now disk bytes told) image)
    (record { any_moment = c.flush.ensures.any_moment told; kept = c.flush.ensures.kept told })
    c.in-Ok.ensures.emptied (c.in-Ok.ensures.rows told)

pub refuse_flush-requires-clause-flush : goal.refuse_flush-requires-clause-flush
refuse_flush-requires-clause-flush g c =
    is_one c.is_flush.result c.args.entry.now.act c.is_flush.ensures c.if-not-is_flush.false

pub refuse_flush-requires-clause-possible : goal.refuse_flush-requires-clause-possible
refuse_flush-requires-clause-possible g c =
    let none : c.args.refused.now ≡ None = none_of c.args.refused.now
    (sym c.is_some.ensures ∙ c.if-is_some.false) in
    flush_possible c.args.core.now.state (c.requires.marked ∙ ap is_some none)

pub returns-in-Err-clause-comes : goal.returns-in-Err-clause-comes
returns-in-Err-clause-comes g c =
    let flush : c.args.entry.now.act ≡ act.Flush = is_one c.is_flush.result c.args.entry.now.act c.is_flush.ensures
    c.if-not-is_flush.false in
    let none : c.args.refused.now ≡ None = none_of c.args.refused.now
    (sym c.is_some.ensures ∙ c.if-is_some.false) in
    let calm : c.args.store.now.refused ≡ false = c.requires.whole none in
    refused_comes g.D.Disk.faults c.args.core.now c.refuse_flush.new.self c.args.store.now c.flush.new.self
    c.args.refused.now c.in-Err.fault c.args.entry.now c.refuse_flush.result flush c.refuse_flush.ensures.made
    (c.requires.marked ∙ ap is_some none) c.refuse_flush.ensures.state c.in-Err.ensures.same_pending
    c.flush.ensures.nothing c.flush.ensures.batches
    (flush_cause g.D.Disk.faults c.args.store.now c.flush.new.self c.in-Err.fault c.flush.result c.in-Err.is calm
    c.flush.ensures.cause c.flush.ensures.full c.flush.ensures.left)

pub returns-in-Err-clause-stops : goal.returns-in-Err-clause-stops
returns-in-Err-clause-stops g c told =
    let flush : c.args.entry.now.act ≡ act.Flush = is_one c.is_flush.result c.args.entry.now.act c.is_flush.ensures
    c.if-not-is_flush.false in
    let none : c.args.refused.now ≡ None = none_of c.args.refused.now
    (sym c.is_some.ensures ∙ c.if-is_some.false) in
    refused_leaves (moment g.D.Disk.moment) (images_at g.D.Disk.images_at) (images g.D.Disk.images) c.args.core.now
    c.refuse_flush.new.self
    c.args.store.now c.flush.new.self c.args.refused.now (Some c.in-Err.fault) c.args.entry.now c.refuse_flush.result
    flush c.refuse_flush.ensures.made (c.requires.marked ∙ ap is_some none) c.refuse_flush.ensures.state
    (λ disk image. now_on g.D.Disk.moment g.D.Disk.images_at g.D.Disk.images disk
    (λ bytes. g.met.D.Disk.images_now disk bytes told) image)
    (record { any_moment = c.flush.ensures.any_moment told; kept = c.flush.ensures.kept told })
    c.in-Err.ensures.same_pending

pub returns-in-Err-clause-taken : goal.returns-in-Err-clause-taken
returns-in-Err-clause-taken g c =
    flush_takes c.args.core.now.state c.args.entry.now c.clear-in-Err.new.self.items
    (is_one c.is_flush.result c.args.entry.now.act c.is_flush.ensures c.if-not-is_flush.false) c.clear-in-Err.ensures
