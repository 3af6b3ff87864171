-- What effects make of the stored rows is the same but for what is masked, whether that was masked
-- before or not.
use Rattle.std.specs.Prelude.{◌≡◌, ℕ, true, List}
use Rattle.kom_types.specs.declared.effects.Effect.{Effect}
use Rattle.kom_model.specs.Db.{Db, conference_head_of, membership_kind_of, person_flags_of}
use Rattle.kom_model.specs.Db.{text_author_of}
use Rattle.kom_model.specs.Effects.{after_effect, apply_all, all_fit}
use Rattle.kom_laws.specs.masking.Masks.{Mask, masked_db}

-- what one mask hides the other hides too
pub record HidesMore (mask wider : Mask) : Type 0 where
  pub conference : (number : ℕ) → mask.conference number ≡ true → wider.conference number ≡ true
  pub text : (number : ℕ) → mask.text number ≡ true → wider.text number ≡ true
  pub person : (number : ℕ) → mask.person number ≡ true → wider.person number ≡ true

-- what the rights hang on is never hidden
pub record TellsRights (mask : Mask) (db : Db) : Type 0 where
  pub heads : (number : ℕ)
      → conference_head_of (masked_db mask db) number ≡ conference_head_of db number
  pub kinds : (person conference : ℕ)
      → membership_kind_of (masked_db mask db) person conference
      ≡ membership_kind_of db person conference
  pub flags : (number : ℕ) → person_flags_of (masked_db mask db) number ≡ person_flags_of db number
  pub authors : (number : ℕ) → text_author_of (masked_db mask db) number ≡ text_author_of db number

-- The laws of masks, for each mask, over all stored rows and each effect: an effect makes the same
-- of the rows but for what is masked; so do effects that fit, one after the other, in two states
-- that are the same but for that; a mask takes in one that hides less; and what the rights hang on
-- stays.
pub record StandMasked : Type 0 where
  pub effect : (mask : Mask) (db : Db) (what : Effect)
      → masked_db mask (after_effect what (masked_db mask db))
      ≡ masked_db mask (after_effect what db)
  pub effects : (mask : Mask) (effects : List Effect) (one other : Db)
      → all_fit effects one ≡ true → all_fit effects other ≡ true
      → masked_db mask one ≡ masked_db mask other
      → masked_db mask (apply_all effects one) ≡ masked_db mask (apply_all effects other)
  pub wider : (mask wider : Mask) (db : Db) → HidesMore mask wider
      → masked_db wider (masked_db mask db) ≡ masked_db wider db
  pub rights : (mask : Mask) (db : Db) → TellsRights mask db
