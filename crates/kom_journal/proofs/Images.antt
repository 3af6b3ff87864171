-- What is known of the bytes of an image, said of the image; and what a disk says of its images.
use Rattle.std.proofs.Common.{◌⊎◌, inl, inr, ℕ, List}
use Rattle.std.specs.Prelude.{◌↔◌}
use Rattle.kom_model.specs.Db.{Db, empty_db}
use Rattle.kom_disk.specs.Moments.{LeavesOnly}
use Rattle.kom_disk.proofs.Moments.{begins}
use Rattle.kom_journal.specs.Files.{IsStoreFrom, AreSoundFiles, AreStoresOf, IsStoreOfEither, header}
use Rattle.kom_journal.specs.Images.{Image, as_read, images, images_at, moment, StandsFor, IsSoundImage, IsKept, AreFor}
use Rattle.kom_journal.specs.Images.{IsForEither, HasFurtherBatch, IsLeftOf, IsForeign, IsCutShort, IsDamaged, IsCause}
use Rattle.kom_journal.specs.Images.{HasCount}
use Rattle.kom_journal.specs.Opened.{IsLeftOfFile, IsUntil, Opens, CountsBatches}
use Rattle.kom_journal.specs.Opening.{IsCauseInFile}
use Rattle.kom_journal.specs.declared.errors.OpenFault.{OpenFault}
use Rattle.kom_journal.specs.declared.errors.OpenFault.TheVariants as fault

module _ {D : Type 0} (disk : D) (bytes : D → List ℕ) where
  -- the file of a disk, and its store
  pub stands_on : (db : Db) → IsStoreFrom header empty_db db (bytes disk) → StandsFor db (as_read bytes disk)
  unfolding StandsFor as_read
  stands_on db stands = stands

  pub file_stands : (db : Db) → StandsFor db (as_read bytes disk) → IsStoreFrom header empty_db db (bytes disk)
  unfolding StandsFor as_read
  file_stands db stands = stands

  pub counts_on : (count : ℕ) → CountsBatches header count (bytes disk) → HasCount count (as_read bytes disk)
  unfolding HasCount as_read
  counts_on count has = has

  pub cause_on : (refused : OpenFault) → IsCauseInFile (bytes disk) refused → IsCause (as_read bytes disk) refused
  unfolding IsForeign IsCutShort IsDamaged as_read
  cause_on fault.Fault cause = cause
  cause_on (fault.Foreign place byte) cause = cause
  cause_on (fault.Short len) cause = cause
  cause_on (fault.Damaged place) cause = cause
  cause_on (fault.Used len) cause = cause
  cause_on fault.Memory cause = cause

  pub left_on : (db : Db) (image : Image) → IsLeftOfFile header empty_db (bytes disk) db image.file
      → IsLeftOf (as_read bytes disk) db image
  unfolding StandsFor HasFurtherBatch as_read
  left_on db image (inl stands) = inl stands
  left_on db image (inr further) = inr further

module _ {D : Type 0} (disk : D) (left_of : D → List ℕ → Type 0) where
  -- all images of a disk
  pub kept_on : AreSoundFiles header empty_db (left_of disk) → IsKept (images left_of disk)
  unfolding IsSoundImage images
  kept_on sound image left = sound image.file left

  pub files_kept : IsKept (images left_of disk) → AreSoundFiles header empty_db (left_of disk)
  unfolding IsSoundImage images
  files_kept kept bytes left = kept (record { file = bytes }) left

  pub for_on : (db : Db) → AreStoresOf header empty_db (left_of disk) db → AreFor (images left_of disk) db
  unfolding StandsFor images
  for_on db stores image left = stores image.file left

  pub files_for : (db : Db) → AreFor (images left_of disk) db → AreStoresOf header empty_db (left_of disk) db
  unfolding StandsFor images
  files_for db for bytes left = for (record { file = bytes }) left

for_either : (db other : Db) (image : Image)
    → IsStoreFrom header empty_db db image.file ⊎ IsStoreFrom header empty_db other image.file
    → StandsFor db image ⊎ StandsFor other image
unfolding StandsFor
for_either db other image (inl stands) = inl stands
for_either db other image (inr stands) = inr stands

module _ {D : Type 0} (clock : D → ℕ) (left_at : D → ℕ → List ℕ → Type 0) where
  -- a stretch of a disk's clock
  pub leaves_on : (old new : D) (P : ℕ → List ℕ → Type 0) (Q : ℕ → Image → Type 0)
      → ((at : ℕ) (image : Image) → P at image.file → Q at image)
      → LeavesOnly clock left_at old new P
      → LeavesOnly (moment clock) (images_at left_at) old new Q
  unfolding moment images_at
  leaves_on old new P Q more leaves = record {
    forward = leaves.forward;
    each = λ at image from to left. more at image (leaves.each at image.file from to left);
    kept = λ at image to. leaves.kept at image.file to;
  }

  -- between these rows and those
  pub either_on : (old new : D) (db other : Db)
      → LeavesOnly clock left_at old new (IsStoreOfEither header empty_db db other)
      → LeavesOnly (moment clock) (images_at left_at) old new (IsForEither db other)
  either_on old new db other leaves =
      leaves_on old new (IsStoreOfEither header empty_db db other) (IsForEither db other)
      (λ at image found. for_either db other image found) leaves

  module _ (bytes : D → List ℕ) (left_of : D → List ℕ → Type 0) where
    until_on : (disk : D) (db : Db) (synced at : ℕ) (image : Image)
        → IsUntil synced (left_of disk) (IsLeftOfFile header empty_db (bytes disk) db) at image.file
        → IsUntil synced (images left_of disk) (IsLeftOf (as_read bytes disk) db) at image
    unfolding images
    until_on disk db synced at image (inl early) = inl early
    until_on disk db synced at image (inr late) = inr (late.0, left_on disk bytes db image late.1)

    -- inside an opening
    pub opens_on : (old new : D) (db : Db)
        → Opens clock left_at old new (left_of old) (IsLeftOfFile header empty_db (bytes old) db)
        → Opens (moment clock) (images_at left_at) old new (images left_of old)
        (IsLeftOf (as_read bytes old) db)
    opens_on old new db opens = record {
      synced = opens.synced;
      leaves = leaves_on old new (IsUntil opens.synced (left_of old) (IsLeftOfFile header empty_db (bytes old) db))
          (IsUntil opens.synced (images left_of old) (IsLeftOf (as_read bytes old) db))
          (λ at image found. until_on old db opens.synced at image found) opens.leaves;
    }

  -- the last moment is now
  pub now_on : (left_of : D → List ℕ → Type 0) (disk : D)
      → ((image : List ℕ) → (left_at disk (clock disk) image ↔ left_of disk image)) → (image : Image)
      → (images_at left_at disk (moment clock disk) image ↔ images left_of disk image)
  unfolding moment images_at images
  now_on left_of disk now image = now image.file

  -- while no call is made
  pub stays_for : (left_of : D → List ℕ → Type 0) (disk : D)
      → ((image : List ℕ) → (left_at disk (clock disk) image ↔ left_of disk image)) → (db other : Db)
      → AreFor (images left_of disk) db
      → LeavesOnly (moment clock) (images_at left_at) disk disk (IsForEither db other)
  stays_for left_of disk now db other for =
      begins (moment clock) (images_at left_at) disk (IsForEither db other)
      (λ image left. inl (for image ((now_on left_of disk now image).0 left)))

-- a disk may be left as it reads
pub reads_on : {D : Type 0} → (bytes : D → List ℕ) (left_of : D → List ℕ → Type 0) (disk : D)
    → left_of disk (bytes disk) → images left_of disk (as_read bytes disk)
unfolding images as_read
reads_on bytes left_of disk reads = reads
