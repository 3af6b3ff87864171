-- What a stop leaves at the last moment of a replacement.
use Rattle.std.proofs.Common.{◌≡◌, inl, inr, ⊎_elim, ℕ, List, ◌∙◌, ap, subst, arith}
use Rattle.std.proofs.lemmas.Bool.{cases_lt}
use Rattle.kom_disk.specs.Disk.{Only}
use Rattle.kom_disk.specs.Moments.{LeavesOnly}
use Rattle.disk_example.specs.Cell.{content_of, IsEither, Changes}

module _ {D : Type 0} (moment : D → ℕ) (images_at : D → ℕ → List ℕ → Type 0) (old new : D) (images : List ℕ → Type 0)
    (bytes : List ℕ) (was content : List ℕ) where
  pub ends : LeavesOnly moment images_at old new (IsEither was content)
      → ((image : List ℕ) → images_at new (moment new) image → images image)
      → Only bytes images → content_of bytes ≡ content
      → LeavesOnly moment images_at old new (Changes (moment new) was content)
  ends stretch now stable holds = record {
    forward = stretch.forward;
    each = λ at image from to left. ⊎_elim
        (λ earlier. ⊎_elim (λ same. inr (earlier, same)) (λ changed. inl changed) (stretch.each at image from to left))
        (λ last.
        let same : at ≡ moment new = omega arith in
        let P : ℕ → Type 0 = λ m. images_at new m image in
        inl (ap content_of (stable image (now image (subst P same left))) ∙ holds))
        (cases_lt at (moment new));
    kept = stretch.kept;
  }
