use Rattle.std.proofs.Common.{◌≡◌, ◌+◌, List, ℕ, [], ◌∷◌, drop, inl, inr, refl, sym, ap, subst, ◌∙◌}
use Rattle.std.proofs.lemmas.List.{drop-drop}
use Rattle.batch_log.specs.Batches.{IsBroken}
use Rattle.batch_log.specs.Walk.{HasFirst, Stands}
use Rattle.kom_journal.specs.Reading.{part}
use Rattle.kom_journal.specs.Snapshots.{MakesSnapshot, IsNoRest}
use Rattle.kom_journal.proofs.Restored.{all_made, none_made}
use Rattle.kom_journal.proofs.SnapshotsAt.{snapshot_body, has_snapshot, no_snapshot_there}
use Rattle.kom_journal.proofs.snapshots.make_snapshot.Goals as goal

other_gate : (gate : ℕ) (rest more after : List ℕ) → rest ≡ 1 ∷ after → rest ≡ gate ∷ more → (gate ≡ 1 → ⊥) → ⊥
other_gate gate rest more after opens is shut = let same : gate ≡ 1 = cc in shut same

pub returns-in-End-clause-none : goal.returns-in-End-clause-none
returns-in-End-clause-none g c told =
    let rest = drop 24 (g.D.Disk.bytes c.args.disk.now) in
    let opens = c.requires.open told in
    let shut = subst (Stands rest) c.in-End.is
    (c.in-Ok.ensures.found told (c.requires.long.1 ∙ g.met.D.Disk.counts_bytes c.args.disk.now told)) in
    absurd (other_gate _ rest shut.1.0 opens.0 opens.1 shut.1.1 shut.0)

pub returns-in-Broken-clause-none : goal.returns-in-Broken-clause-none
returns-in-Broken-clause-none g c told =
    let file = g.D.Disk.bytes c.args.disk.now in
    let broken = subst (Stands (drop 24 file)) c.in-Broken.is
    (c.in-Ok.ensures.found told (c.requires.long.1 ∙ g.met.D.Disk.counts_bytes c.args.disk.now told)) in (
      refl,
      inl (subst IsBroken (sym (sym (drop-drop 1 24 file) ∙ ap (drop 1) broken.1)) broken.2),
    )

pub returns-in-Ok-make_body-clause-made : goal.returns-in-Ok-make_body-clause-made
returns-in-Ok-make_body-clause-made g c told =
    let file = g.D.Disk.bytes c.args.disk.now in
    let size = c.in-Batch.size in
    let old = c.new-maker.result in
    let new = c.make_body.new.maker in
    let first : HasFirst size (drop 24 file) =
    subst (Stands (drop 24 file)) c.in-Batch.is
    (c.in-Ok.ensures.found told (c.requires.long.1 ∙ g.met.D.Disk.counts_bytes c.args.disk.now told)) in
    let body : part 33 (33 + size) (g.D.Disk.bytes c.look.new.disk) ≡ first.body =
    ap (part 33 (33 + size)) (c.look.ensures.bytes told) ∙ snapshot_body size file first in
    has_snapshot size file first new.rows.db
    (all_made old.counting new.counting old.rows.db new.rows.db first.body c.new-maker.ensures.counting
    c.new-maker.ensures.rows
    (subst (λ (l : List ℕ). MakesSnapshot old.counting old.rows.db new.counting new.rows.db l []) body
    (c.in-Ok-make_body.ensures.made told)))

pub returns-in-Err-Unfit-clause-none : goal.returns-in-Err-Unfit-clause-none
returns-in-Err-Unfit-clause-none g c told =
    let file = g.D.Disk.bytes c.args.disk.now in
    let size = c.in-Batch.size in
    let old = c.new-maker.result in
    let first : HasFirst size (drop 24 file) =
    subst (Stands (drop 24 file)) c.in-Batch.is
    (c.in-Ok.ensures.found told (c.requires.long.1 ∙ g.met.D.Disk.counts_bytes c.args.disk.now told)) in
    let body : part 33 (33 + size) (g.D.Disk.bytes c.look.new.disk) ≡ first.body =
    ap (part 33 (33 + size)) (c.look.ensures.bytes told) ∙ snapshot_body size file first in
    let none = (rw c.in-Err-Unfit.field-0-is at c.in-Err-Unfit.ensures).unfit told refl in (
      refl,
      inr (no_snapshot_there size file first
          (none_made old.counting old.rows.db first.body c.new-maker.ensures.counting c.new-maker.ensures.rows
          (subst (λ (l : List ℕ). IsNoRest old.counting old.rows.db l) body none))),
    )
