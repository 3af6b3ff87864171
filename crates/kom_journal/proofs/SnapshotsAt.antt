-- The snapshot that stands in a file.
use Rattle.std.proofs.Common.{◌≡◌, ◌+◌, ℕ, List, ◌∷◌, ◌++◌, length, take, drop, ap, sym, ◌∙◌}
use Rattle.std.proofs.Common.{arith}
use Rattle.std.proofs.Math.Seq.{take-add}
use Rattle.std.proofs.lemmas.List.{drop-drop, take_at}
use Rattle.kom_model.specs.Db.{Db}
use Rattle.batch_log.specs.Batches.{with_length}
use Rattle.batch_log.specs.Walk.{HasFirst}
use Rattle.batch_log.proofs.Parts.{length-sized}
use Rattle.kom_journal.specs.Reading.{part}
use Rattle.kom_journal.specs.Snapshots.{IsSnapshotOf, IsNoSnapshot, HasSnapshotAt, HasNoSnapshot}
use Rattle.kom_journal.proofs.Reading.{first_body}

module _ (size : ℕ) (file : List ℕ) (first : HasFirst size (drop 24 file)) where
  -- what stands after the gate
  after_gate : drop 25 file ≡ with_length first.body ++ first.gate ∷ first.after
  after_gate = sym (drop-drop 1 24 file) ∙ ap (drop 1) first.whole

  pub snapshot_body : part 33 (33 + size) file ≡ first.body
  snapshot_body =
      let end : 33 + size ≡ 24 + (9 + size) = omega arith in
      ap (λ (n : ℕ). part 33 n file) end ∙ first_body 24 size file first

  pub has_snapshot : (db : Db) → IsSnapshotOf db first.body → HasSnapshotAt (33 + size) db file
  has_snapshot db stands =
      let long : length (with_length first.body) ≡ 8 + size = omega (arith, length-sized first.body, first.counts) in
      let at : 33 + size ≡ 25 + (8 + size) = omega arith in
      record {
        snapshot = first.body;
        stands = stands;
        short = omega (arith, first.counts, first.short);
        starts = ap (λ (n : ℕ). take n file) at ∙ take-add 25 (8 + size) file
            ∙ ap (λ (l : List ℕ). take 25 file ++ take (8 + size) l) after_gate
            ∙ ap (λ (l : List ℕ). take 25 file ++ l)
            (take_at (with_length first.body) (first.gate ∷ first.after) (8 + size) long);
        at = omega (arith, first.counts);
      }

  pub no_snapshot_there : IsNoSnapshot first.body → HasNoSnapshot (drop 25 file)
  no_snapshot_there none = record {
    body = first.body;
    after = first.gate ∷ first.after;
    whole = after_gate;
    more = omega arith;
    short = omega (arith, first.counts, first.short);
    none = none;
  }
