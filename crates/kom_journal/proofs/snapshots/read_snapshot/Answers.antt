use Rattle.std.proofs.Common.{ℕ, List, [], refl, ap, sym, subst, arith, length-drop, append-nil}
use Rattle.kom_model.specs.Db.{Db}
use Rattle.kom_journal.specs.Snapshots.{IsSnapshotOf, IsNoRest}
use Rattle.kom_journal.proofs.Restored.{some_left, none_left, none_made}
use Rattle.kom_journal.proofs.snapshots.read_snapshot.Goals as goal

pub returns-in-Ok-clause-wrong : goal.returns-in-Ok-clause-wrong
returns-in-Ok-clause-wrong c same =
    let old = c.new-maker.result in
    let new = c.make_parts.new.maker in
    let bytes = c.args.bytes.now in
    let used = c.in-Ok.used in
    let made = c.in-Ok.ensures.made in
    some_left old.counting new.counting old.rows.db new.rows.db bytes used c.new-maker.ensures.counting
    c.new-maker.ensures.rows made.0.1
    (made.1 (omega (arith, c.if-used-bytes.true, length-drop used bytes)))

pub returns-in-Ok-2-clause-rows : goal.returns-in-Ok-2-clause-rows
returns-in-Ok-2-clause-rows c =
    let old = c.new-maker.result in
    let new = c.make_parts.new.maker in
    let bytes = c.args.bytes.now in
    let used = c.in-Ok.used in
    let made = c.in-Ok.ensures.made in
    subst (λ (db : Db). IsSnapshotOf db bytes) (sym (ap (λ stored. stored.db) c.into_stored.ensures.same))
    (none_left old.counting new.counting old.rows.db new.rows.db bytes used c.new-maker.ensures.counting
    c.new-maker.ensures.rows made.0.1 (omega (arith, made.0.0, c.if-used-bytes.false)))

pub returns-in-Err-Unfit-clause-wrong : goal.returns-in-Err-Unfit-clause-wrong
returns-in-Err-Unfit-clause-wrong c same =
    let old = c.new-maker.result in
    let none = (rw c.in-Err-Unfit.field-0-is at c.in-Err-Unfit.ensures).unfit refl in
    none_made old.counting old.rows.db c.args.bytes.now c.new-maker.ensures.counting c.new-maker.ensures.rows
    (subst (λ (l : List ℕ). IsNoRest old.counting old.rows.db l) (append-nil c.args.bytes.now) (none []))
