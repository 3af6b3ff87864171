-- The snapshot of stored rows as bytes, and a file that gets one.
use Rattle.std.specs.Prelude.{◌≡◌, ◌⊎◌, ℕ, List, flat_map}
use Rattle.std.specs.List.{AllByRecursion}
use Rattle.kom_types.specs.Parts.{Part}
use Rattle.kom_model.specs.Db.{Db}
use Rattle.kom_snapshot.specs.Snap.{snap}
use Rattle.kom_snapshot.specs.Snapshot.{parts_of}
use Rattle.effect_codec.specs.Parts.{coded_part, IsPartInRange}
use Rattle.store_files.specs.Choices.{IsBeside}
use Rattle.store_files.specs.Writing.{new_file}
use Rattle.store_files.specs.declared.choices.Choice.{Choice}

-- parts, one after the other
abbrev pub coded_parts : List Part → List ℕ
coded_parts parts = flat_map coded_part parts

-- the snapshot of these rows
abbrev pub snapshot_bytes : Db → List ℕ
snapshot_bytes db = coded_parts (parts_of (snap db))

-- the numbers and lengths of its parts are in range, so that its bytes are read as they were told
abbrev pub AreCoded : Db → Type 0
AreCoded db = AllByRecursion IsPartInRange (parts_of (snap db))

-- at each moment the file may stand beside what is chosen, or it is the new one of these rows
abbrev pub IsBesideOrNew : Choice → ℕ → Db → ℕ → List ℕ → Type 0
IsBesideOrNew choice generation db moment image = IsBeside choice image
    ⊎ ((image ≡ new_file generation (snapshot_bytes db)) × AreCoded db)
