-- What a stop may leave of a store, and what that stands for. Above this crate no byte of it is
-- seen: these definitions stay closed there.
use Rattle.std.specs.Prelude.{◌⊎◌, ℕ, List}
use Rattle.kom_types.specs.declared.effects.Effect.{Effect}
use Rattle.kom_model.specs.Db.{Db, empty_db}
use Rattle.kom_model.specs.Effects.{apply_all}
use Rattle.kom_journal.specs.Files.{IsStoreFrom, IsSoundFile, header}
use Rattle.kom_journal.specs.Opened.{HasFurther, CountsBatches}
use Rattle.kom_journal.specs.Opening.{IsDamagedAt, IsForeignAt, IsTooShort}
use Rattle.kom_journal.specs.declared.errors.OpenFault.{OpenFault}
use Rattle.kom_journal.specs.declared.errors.OpenFault.TheVariants as fault

-- what a stop may leave of a store
pub record Image : Type 0 where
  pub file : List ℕ

module _ {D : Type 0} where
  -- the store on a disk, as it reads
  unfoldable pub as_read : (D → List ℕ) → D → Image
  as_read bytes disk = record { file = bytes disk }

  -- what a stop now may leave of the store on a disk
  unfoldable pub images : (D → List ℕ → Type 0) → D → Image → Type 0
  images left disk image = left disk image.file

  -- what a stop at a moment up to now could have left of it
  unfoldable pub images_at : (D → ℕ → List ℕ → Type 0) → D → ℕ → Image → Type 0
  images_at left_at disk at image = left_at disk at image.file

  -- the moment now
  unfoldable pub moment : (D → ℕ) → D → ℕ
  moment clock disk = clock disk

-- The image stands for these rows: it is a store whose batches have effects that all fit, one after
-- the other from the empty rows on, and make these.
unfoldable pub StandsFor : Db → Image → Type 0
StandsFor db image = IsStoreFrom header empty_db db image.file

-- The image stands for some rows; and if the gate after its last batch is not closed either, one
-- whole batch that fits stands after that.
unfoldable pub IsSoundImage : Image → Type 0
IsSoundImage image = IsSoundFile header empty_db image.file

-- each image is sound
abbrev pub IsKept : (Image → Type 0) → Type 0
IsKept images = (image : Image) → images image → IsSoundImage image

-- each image stands for these rows
abbrev pub AreFor : (Image → Type 0) → Db → Type 0
AreFor images db = (image : Image) → images image → StandsFor db image

-- the image stands for the one or the other rows
abbrev pub IsForEither : Db → Db → ℕ → Image → Type 0
IsForEither one other moment image = StandsFor one image ⊎ StandsFor other image

-- one further batch, of these effects, stood whole after a gate that was neither closed nor open
unfoldable pub HasFurtherBatch : Db → List Effect → Image → Type 0
HasFurtherBatch db effects image = HasFurther header empty_db db effects image.file

-- what a stop leaves of an opening once its first sync has ended: what stands for the rows that the
-- store had as it was read, or for those with one further batch
abbrev pub IsLeftOf : Image → Db → Image → Type 0
IsLeftOf read db image = StandsFor db image
    ⊎ ((effects : List Effect) × HasFurtherBatch db effects read
    × StandsFor (apply_all effects db) image)

-- the store has so many batches
unfoldable pub HasCount : ℕ → Image → Type 0
HasCount count image = CountsBatches header count image.file

-- the first place of the header that holds another byte holds this one
unfoldable pub IsForeign : ℕ → ℕ → Image → Type 0
IsForeign place byte image = IsForeignAt place byte image.file

-- the store is so long, which is less than one without a batch, and begins as a store does
unfoldable pub IsCutShort : ℕ → Image → Type 0
IsCutShort len image = IsTooShort len image.file

-- after batches that all fit an open gate, at this place, stands before bytes that are no batch, or
-- before an effect that does not fit
unfoldable pub IsDamaged : ℕ → Image → Type 0
IsDamaged place image = IsDamagedAt header empty_db place image.file

-- why a store is not opened, where the disk does not fail and memory does not run out
abbrev pub IsCause : Image → OpenFault → Type 0
IsCause image fault.Fault = Unit {0}
IsCause image (fault.Foreign place byte) = IsForeign place byte image
IsCause image (fault.Short len) = IsCutShort len image
IsCause image (fault.Damaged place) = IsDamaged place image
IsCause image (fault.Used len) = ⊥
IsCause image fault.Memory = Unit {0}
