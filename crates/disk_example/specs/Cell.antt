-- What a file of a cell stands for.
use Rattle.std.specs.Prelude.{◌≡◌, ◌<◌, ◌⊎◌, ℕ, Bool, List, take, drop, slice_index_or}
use Rattle.std.specs.Prelude.{if◌then◌else◌, ◌==◌}
use Rattle.kom_disk.specs.Disk.{Only}

-- the slot that the first byte names: the second where it is 1
abbrev pub content_of : List ℕ → List ℕ
content_of file =
    if slice_index_or file 0 0 == 1 then take 8 (drop 9 file) else take 8 (drop 1 file)

-- the slot that it does not name
abbrev pub other_of : List ℕ → List ℕ
other_of file = if slice_index_or file 0 0 == 1 then take 8 (drop 1 file) else take 8 (drop 9 file)

-- it is known which slot the first byte names, and a stop leaves these bytes
pub record IsSettled (is_second : Bool) (bytes : List ℕ) (images : List ℕ → Type 0) : Type 0 where
  pub named : is_second ≡ (slice_index_or bytes 0 0 == 1)
  pub stable : Only bytes images

-- at each moment the image stands for this content
abbrev pub Stays : List ℕ → ℕ → List ℕ → Type 0
Stays content moment image = content_of image ≡ content

-- at each moment the image stands for the old content or the new one
abbrev pub IsEither : List ℕ → List ℕ → ℕ → List ℕ → Type 0
IsEither old new moment image = (content_of image ≡ old) ⊎ (content_of image ≡ new)

-- before the last moment the image stands for the old content or the new one, and then for the new
-- one
abbrev pub Changes : ℕ → List ℕ → List ℕ → ℕ → List ℕ → Type 0
Changes last old new moment image =
    (content_of image ≡ new) ⊎ ((moment < last) × (content_of image ≡ old))
