-- What a stop leaves over a stretch of a disk's clock.
use Rattle.std.specs.Prelude.{◌<◌, ◌≤◌, ◌↔◌, ℕ}

-- Inside a call from one moment to another a stop leaves an image from its start, or one from its
-- end, which has P then.
pub record HasInside {I : Type 0} (start end : ℕ) (old new : I → Type 0)
    (P : ℕ → I → Type 0) : Type 0 where
  pub before : (at : ℕ) (image : I) → start < at → at < end → old image → P at image
  pub after : (at : ℕ) (image : I) → start < at → at ≤ end → new image → P at image

-- for images of any type
module _ {D I : Type 0} (moment : D → ℕ) (images_at : D → ℕ → I → Type 0) where
  -- some moment from this one up to now could have left the image
  pub record LeftSince (disk : D) (first : ℕ) (image : I) : Type 0 where
    pub at : ℕ
    pub from : first ≤ at
    pub to : at ≤ moment disk
    pub left : images_at disk at image

  -- From the old disk to the new one each moment leaves only what has P then, and the earlier
  -- moments stay as they were.
  pub record LeavesOnly (old new : D) (P : ℕ → I → Type 0) : Type 0 where
    pub forward : moment old ≤ moment new
    pub each : (at : ℕ) (image : I) → moment old ≤ at → at ≤ moment new
        → images_at new at image → P at image
    pub kept : (at : ℕ) (image : I) → at ≤ moment old
        → (images_at new at image ↔ images_at old at image)
