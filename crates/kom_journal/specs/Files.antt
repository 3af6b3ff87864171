-- What the file of a store stands for.
use Rattle.std.specs.Prelude.{◌≡◌, ◌⊎◌, ◌<◌, ◌^◌, ℕ, true, List, [], ◌∷◌, ◌++◌, map, length, codes}
use Rattle.std.specs.List.{flat_map, AllByRecursion}
use Rattle.kom_types.specs.declared.effects.Effect.{Effect}
use Rattle.kom_model.specs.Db.{Db}
use Rattle.kom_model.specs.Effects.{apply_all, all_fit}
use Rattle.batch_log.specs.Batches.{HasBatches, batch}
use Rattle.effect_codec.specs.Coding.{coded_effect, IsInRange}

-- how a store begins: its name, and the number of its version in four bytes, the lowest first, with
-- four of zero after them
abbrev pub header : List ℕ
header = codes "KOMSTORE" ++ 1 ∷ 0 ∷ 0 ∷ 0 ∷ 0 ∷ 0 ∷ 0 ∷ 0 ∷ []

-- the body of a batch: its effects, one after the other
abbrev pub body_of : List Effect → List ℕ
body_of effects = flat_map coded_effect effects

-- the effects of all batches, in order
abbrev pub all_of : List (List Effect) → List Effect
all_of batches = flat_map (λ effects. effects) batches

-- the bytes after some gate are a whole batch of effects that all fit in these rows, and a closed
-- gate
pub record HasOneMore (db : Db) (rest : List ℕ) : Type 0 where
  pub effects : List Effect
  pub more : List ℕ
  pub whole : 1 ∷ rest ≡ batch (body_of effects) ++ 0 ∷ more
  pub coded : AllByRecursion IsInRange effects
  pub short : length (body_of effects) < 2 ^ 64
  pub fit : all_fit effects db ≡ true

-- Before the batches stands a start, and their effects begin from some rows.
module _ (start : List ℕ) (from : Db) where
  -- The bytes are a store of these rows: after the start it has batches whose effects all fit, one
  -- after the other from the first rows on, and make these.
  pub record IsStoreFrom (db : Db) (bytes : List ℕ) : Type 0 where
    pub batches : List (List Effect)
    pub file : HasBatches start (map body_of batches) bytes
    pub coded : AllByRecursion (AllByRecursion IsInRange) batches
    pub fit : all_fit (all_of batches) from ≡ true
    pub rows : db ≡ apply_all (all_of batches) from

  -- The bytes are a sound store: one of some rows; and if the gate after its last batch is not
  -- closed either, one whole batch that fits stands after that.
  pub record IsSoundFile (bytes : List ℕ) : Type 0 where
    pub db : Db
    pub stands : IsStoreFrom db bytes
    pub ended : (gate : ℕ) (rest : List ℕ)
        → bytes ≡ start ++ flat_map batch (map body_of stands.batches) ++ gate ∷ rest
        → (gate ≡ 0) ⊎ HasOneMore db rest

  -- each of these is sound
  abbrev pub AreSoundFiles : (List ℕ → Type 0) → Type 0
  AreSoundFiles files = (bytes : List ℕ) → files bytes → IsSoundFile bytes

  -- each of these is one of these rows
  abbrev pub AreStoresOf : (List ℕ → Type 0) → Db → Type 0
  AreStoresOf files db = (bytes : List ℕ) → files bytes → IsStoreFrom db bytes

  -- the bytes are a store of the one or the other rows
  abbrev pub IsStoreOfEither : Db → Db → ℕ → List ℕ → Type 0
  IsStoreOfEither one other moment bytes = IsStoreFrom one bytes ⊎ IsStoreFrom other bytes
