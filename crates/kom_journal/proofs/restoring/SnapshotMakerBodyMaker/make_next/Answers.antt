use Rattle.std.proofs.Common.{◌++◌, Bool, drop, sym, ap, subst, ◌∙◌, arith}
use Rattle.kom_types.specs.declared.raised.Raised.{Raised}
use Rattle.kom_model.specs.Raising.{may_raise, raised_in}
use Rattle.effect_codec.specs.Laws.{AreBytes}
use Rattle.effect_codec.proofs.Counters.{raised_spelled}
use Rattle.kom_journal.specs.Snapshots.{IsNoRest}
use Rattle.kom_journal.proofs.Restored.{counter_comes, counter_unfit, counter_lacks, counting_unfit, effect_found}
use Rattle.kom_journal.proofs.Restored.{effect_unfit}
use Rattle.kom_journal.proofs.restoring.SnapshotMakerBodyMaker.make_next.Goals as goal

pub returns-then-not-may_raise-clause-unfit : goal.returns-then-not-may_raise-clause-unfit
returns-then-not-may_raise-clause-unfit c same more =
    let maker = c.args.self.now in
    let bytes = c.args.bytes.now in
    let given = c.in-Ok-Some.given in
    let are : AreBytes bytes = λ k. omega (arith, c.type_inv.bytes k) in
    let read = rw c.in-Ok-Some.field-0-is at c.in-Ok-Some.ensures in
    let spelled = raised_spelled given bytes (drop 14 bytes) are read.0 in
    counter_unfit maker.counting maker.rows.db given bytes (drop 14 bytes) more spelled.0 spelled.1
    (sym (c.may_raise.ensures ∙ ap (λ (g : Raised). may_raise g maker.rows.db) c.in-Ok-Some.given-is)
    ∙ c.if-not-may_raise.true)

pub returns-else-not-may_raise-clause-made : goal.returns-else-not-may_raise-clause-made
returns-else-not-may_raise-clause-made c =
    let maker = c.args.self.now in
    let bytes = c.args.bytes.now in
    let given = c.in-Ok-Some.given in
    let are : AreBytes bytes = λ k. omega (arith, c.type_inv.bytes k) in
    let read = rw c.in-Ok-Some.field-0-is at c.in-Ok-Some.ensures in
    let spelled = raised_spelled given bytes (drop 14 bytes) are read.0 in (
      omega arith,
      (
        read.1,
        λ more. counter_comes maker.counting maker.rows.db c.raise.new.self.db given bytes (drop 14 bytes) more
            spelled.0 spelled.1
            (sym (c.may_raise.ensures ∙ ap (λ (g : Raised). may_raise g maker.rows.db) c.in-Ok-Some.given-is)
            ∙ c.if-not-may_raise.false)
            (c.raise.ensures ∙ ap (λ (g : Raised). raised_in g maker.rows.db) c.in-Ok-Some.given-is),
      ),
    )

pub returns-in-Ok-None-clause-made : goal.returns-in-Ok-None-clause-made
returns-in-Ok-None-clause-made c =
    let maker = c.args.self.now in (
      λ more last. (λ left. left, λ left. left),
      λ some. counter_lacks maker.counting maker.rows.db c.args.bytes.now
          (rw c.in-Ok-None.field-0-is at c.in-Ok-None.ensures) some,
    )

pub returns-then-self-clause-unfit : goal.returns-then-self-clause-unfit
returns-then-self-clause-unfit c same more =
    let maker = c.args.self.now in
    subst (λ (b : Bool). IsNoRest b maker.rows.db (c.args.bytes.now ++ more)) (sym c.if-self.true)
    (counting_unfit maker.rows.db c.args.bytes.now c.in-Err.ensures more)

pub returns-else-self-clause-made : goal.returns-else-self-clause-made
returns-else-self-clause-made c =
    let maker = c.args.self.now in
    effect_found c.make_effect.result c.args.bytes.now maker
    (record { rows = c.make_effect.new.rows; counting = maker.counting }) c.if-self.false c.if-self.false
    c.in-Err.ensures c.make_effect.ensures.made

pub returns-else-self-clause-unfit : goal.returns-else-self-clause-unfit
returns-else-self-clause-unfit c same more =
    let maker = c.args.self.now in
    subst (λ (b : Bool). IsNoRest b maker.rows.db (c.args.bytes.now ++ more)) (sym c.if-self.false)
    (effect_unfit maker.rows.db c.args.bytes.now c.in-Err.ensures (c.make_effect.ensures.unfit same) more)
