-- How what a stop leaves is followed from one call to the next, for images of any type.
use Rattle.std.proofs.Common.{◌≡◌, ◌<◌, ◌≤◌, inl, inr, ⊎_elim, ℕ, Bool, IsTrue, arith, subst, sym}
use Rattle.std.proofs.lemmas.Bool.{cases_lt}
use Rattle.kom_disk.specs.Disk.{Passes}
use Rattle.kom_disk.specs.Moments.{LeavesOnly}

module _ {D I : Type 0} (moment : D → ℕ) (images_at : D → ℕ → I → Type 0) where
  -- two calls in turn pass as one does, where the first adds no image
  pub passes_in_turn : (tells : Bool) (old mid new : D)
      → Passes tells (moment old) (moment mid) (images_at old) (images_at mid)
      → Passes tells (moment mid) (moment new) (images_at mid) (images_at new)
      → (IsTrue tells → (image : I) → images_at mid (moment mid) image → images_at old (moment old) image)
      → Passes tells (moment old) (moment new) (images_at old) (images_at new)
  passes_in_turn tells old mid new first second adds_none = record {
    forward = omega (arith, first.forward, second.forward);
    kept = λ told at image earlier.
        let by : at ≤ moment mid = omega (arith, first.forward) in (
          λ left. (first.kept told at image earlier).0
              ((second.kept told at image by).0 left),
          λ left. (second.kept told at image by).1
              ((first.kept told at image earlier).1 left),
        );
    inside = λ told at image after before left. ⊎_elim
        (λ later. ⊎_elim (λ was. inl (adds_none told image was)) (λ is. inr is)
        (second.inside told at image later before left))
        (λ by. ⊎_elim (λ was. inl was) (λ is. inl (adds_none told image is))
        (first.inside told at image after by ((second.kept told at image by).0 left)))
        (cases_lt (moment mid) at);
  }

  -- before any call
  pub begins : (disk : D) (P : ℕ → I → Type 0)
      → ((image : I) → images_at disk (moment disk) image → P (moment disk) image)
      → LeavesOnly moment images_at disk disk P
  begins disk P now = record {
    forward = omega arith;
    each = λ at image from to left.
        let same : at ≡ moment disk = omega (arith, from, to) in
        subst (λ (m : ℕ). P m image) (sym same)
        (now image (subst (λ (m : ℕ). images_at disk m image) same left));
    kept = λ at image to. (λ left. left, λ left. left);
  }

  -- over one call, which leaves an image from its start or one from its end
  pub one_call : (tells : Bool) (told : IsTrue tells) (old new : D) (P : ℕ → I → Type 0)
      → Passes tells (moment old) (moment new) (images_at old) (images_at new)
      → ((at : ℕ) (image : I) → images_at old (moment old) image → P at image)
      → ((at : ℕ) (image : I) → images_at new (moment new) image → P at image)
      → LeavesOnly moment images_at old new P
  one_call tells told old new P passes before after = record {
    forward = passes.forward;
    each = λ at image from to left. ⊎_elim
        (λ (past : moment old < at). ⊎_elim (before at image) (after at image)
        (passes.inside told at image past to left))
        (λ (early : at ≤ moment old).
        let same : at ≡ moment old = omega (arith, from, early) in
        before at image (subst (λ (m : ℕ). images_at old m image) same
        ((passes.kept told at image early).0 left)))
        (cases_lt (moment old) at);
    kept = λ at image to. passes.kept told at image to;
  }

  -- over two stretches in turn
  pub in_turn : (old mid new : D) (P : ℕ → I → Type 0) → LeavesOnly moment images_at old mid P
      → LeavesOnly moment images_at mid new P → LeavesOnly moment images_at old new P
  in_turn old mid new P first second = record {
    forward = omega (arith, first.forward, second.forward);
    each = λ at image from to left. ⊎_elim
        (λ (past : moment mid < at). second.each at image (omega (arith, past)) to left)
        (λ (early : at ≤ moment mid). first.each at image from early
        ((second.kept at image early).0 left))
        (cases_lt (moment mid) at);
    kept = λ at image to.
        let early : at ≤ moment mid = omega (arith, to, first.forward) in (
          λ left. (first.kept at image to).0 ((second.kept at image early).0 left),
          λ left. (second.kept at image early).1 ((first.kept at image to).1 left),
        );
  }

  -- what has one fact has a wider one
  pub wider : (old new : D) (P Q : ℕ → I → Type 0) → LeavesOnly moment images_at old new P
      → ((at : ℕ) (image : I) → moment old ≤ at → at ≤ moment new → P at image → Q at image)
      → LeavesOnly moment images_at old new Q
  wider old new P Q stretch more = record {
    forward = stretch.forward;
    each = λ at image from to left. more at image from to (stretch.each at image from to left);
    kept = stretch.kept;
  }
