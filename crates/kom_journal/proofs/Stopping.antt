-- What a stop inside an opening leaves.
use Rattle.std.proofs.Common.{◌<◌, ◌≤◌, ◌+◌, inl, inr, ⊎_elim, ℕ, arith}
use Rattle.std.proofs.lemmas.Bool.{cases_lt}
use Rattle.std.specs.Prelude.{◌↔◌}
use Rattle.kom_disk.specs.Moments.{LeavesOnly}
use Rattle.kom_journal.specs.Opened.{Opens}

module _ {D I : Type 0} (moment : D → ℕ) (images_at : D → ℕ → I → Type 0) (images : D → I → Type 0)
    (now : (disk : D) (image : I) → (images_at disk (moment disk) image ↔ images disk image)) where
  -- all moments are before the sync has ended
  pub never_synced : (old new : D) (before after : I → Type 0)
      → LeavesOnly moment images_at old new (λ at image. before image) → Opens moment images_at old new before after
  never_synced old new before after leaves = record {
    synced = moment new + 1;
    leaves = record {
      forward = leaves.forward;
      each = λ at image from to left. inl (omega (arith, to), leaves.each at image from to left);
      kept = leaves.kept;
    };
  }

  -- a sync that succeeds, and what is left after it
  pub synced_then : (old mid new : D) (before after : I → Type 0)
      → LeavesOnly moment images_at old mid (λ at image. before image)
      → LeavesOnly moment images_at mid new (λ at image. after image)
      → Opens moment images_at old new before after
  synced_then old mid new before after first second = record {
    synced = moment mid;
    leaves = record {
      forward = omega (arith, first.forward, second.forward);
      each = λ at image from to left. ⊎_elim
          (λ (early : at < moment mid).
          let left_mid : images_at mid at image = (second.kept at image (omega (arith, early))).0 left in
          let stays : (at < moment mid) × before image =
          (early, first.each at image from (omega (arith, early)) left_mid) in
          inl stays)
          (λ (late : moment mid ≤ at).
          let goes : (moment mid ≤ at) × after image = (late, second.each at image late to left) in
          inr goes)
          (cases_lt at (moment mid));
      kept = λ at image to.
          let early : at ≤ moment mid = omega (arith, to, first.forward) in (
            λ left. (first.kept at image to).0 ((second.kept at image early).0 left),
            λ left. (second.kept at image early).1 ((first.kept at image to).1 left),
          );
    };
  }
