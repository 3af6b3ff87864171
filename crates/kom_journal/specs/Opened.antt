-- What an opening finds, and what a stop inside it leaves.
use Rattle.std.specs.Prelude.{◌≡◌, ◌≢◌, ◌<◌, ◌≤◌, ◌⊎◌, ℕ, true, List, ◌∷◌, ◌++◌, map, length, drop}
use Rattle.std.specs.List.{AllByRecursion}
use Rattle.kom_types.specs.declared.effects.Effect.{Effect}
use Rattle.kom_model.specs.Db.{Db}
use Rattle.kom_model.specs.Effects.{apply_all, all_fit}
use Rattle.kom_disk.specs.Moments.{LeavesOnly}
use Rattle.batch_log.specs.Batches.{batches, with_length, AreShort, HasBatches}
use Rattle.batch_log.specs.Walk.{IsReadTo}
use Rattle.effect_codec.specs.Coding.{IsInRange}
use Rattle.kom_journal.specs.Files.{IsStoreFrom, body_of, all_of}

-- the effects of these batches all fit, one after the other from some rows on, and make others
pub record Makes (from : Db) (lists : List (List Effect)) (db : Db) : Type 0 where
  pub coded : AllByRecursion (AllByRecursion IsInRange) lists
  pub short : AreShort (map body_of lists)
  pub fit : all_fit (all_of lists) from ≡ true
  pub rows : db ≡ apply_all (all_of lists) from

-- a start and the batches of these effects
abbrev pub store_of : List ℕ → List (List Effect) → List ℕ
store_of start lists = start ++ batches (map body_of lists)

-- Before the batches stands a start, and their effects begin from some rows.
module _ (start : List ℕ) (from : Db) where
  -- so many batches, whose effects make these rows, stand before a place of the file
  pub record IsMadeTo (place count : ℕ) (db : Db) (file : List ℕ) : Type 0 where
    pub lists : List (List Effect)
    pub makes : Makes from lists db
    pub read : IsReadTo start (map body_of lists) place file
    pub counts : length lists ≡ count

  -- and there stands this gate, which is not open
  pub record IsMadeOf (place gate count : ℕ) (db : Db) (file : List ℕ) : Type 0 where
    pub made : IsMadeTo place count db file
    pub shut : gate ≢ 1
    pub more : List ℕ
    pub ends : drop place file ≡ gate ∷ more

  -- what a stop after the first sync of an opening leaves: what stands for the rows of the file; or
  -- for those with one further batch, which stood whole after a gate that was neither closed nor
  -- open
  pub record HasFurther (db : Db) (effects : List Effect) (file : List ℕ) : Type 0 where
    pub lists : List (List Effect)
    pub makes : Makes from lists db
    pub gate : ℕ
    pub more : List ℕ
    pub torn : gate ≢ 0
    pub whole : file ≡ store_of start lists ++ gate ∷ (with_length (body_of effects) ++ 0 ∷ more)
    pub fit : all_fit effects db ≡ true

  abbrev pub IsLeftOfFile : List ℕ → Db → List ℕ → Type 0
  IsLeftOfFile file db image = IsStoreFrom start from db image
      ⊎ ((effects : List Effect) × HasFurther db effects file
      × IsStoreFrom start from (apply_all effects db) image)

-- until some moment a stop leaves what it could before, and from then on what has this fact
abbrev pub IsUntil : {I : Type 0} → ℕ → (I → Type 0) → (I → Type 0) → ℕ → I → Type 0
IsUntil synced before after moment image =
    ((moment < synced) × before image) ⊎ ((synced ≤ moment) × after image)

module _ {D I : Type 0} (moment : D → ℕ) (images_at : D → ℕ → I → Type 0) where
  pub record Opens (old new : D) (before after : I → Type 0) : Type 0 where
    pub synced : ℕ
    pub leaves : LeavesOnly moment images_at old new (IsUntil synced before after)

-- the file has so many batches after its start
pub record CountsBatches (start : List ℕ) (count : ℕ) (file : List ℕ) : Type 0 where
  pub bodies : List (List ℕ)
  pub has : HasBatches start bodies file
  pub counts : length bodies ≡ count
