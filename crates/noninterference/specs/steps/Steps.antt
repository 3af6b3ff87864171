-- What effects make of two states that are the same but for what is hidden from a group.
use Rattle.std.specs.Prelude.{◌≡◌, ℕ, true, List, is_some, IsTrue}
use Rattle.kom_types.specs.declared.effects.Effect.{Effect}
use Rattle.kom_model.specs.Db.{Db, conference_of, text_of}
use Rattle.kom_model.specs.Effects.{IsProtected, apply_all, all_fit}
use Rattle.kom_model.specs.Whole.{IsWhole}
use Rattle.kom_laws.specs.Groups.{Group, is_unseen, is_unread}
use Rattle.kom_laws.specs.Erasing.{erased_db}

-- No Opening to a group: a conference that stands before and after, and is unseen before, is unseen
-- after; and a text that stands before and after, and is unread before, is unread after.
pub record HasNoOpening (group : Group) (before after : Db) : Type 0 where
  pub conference : (number : ℕ) → IsTrue (is_some (conference_of before number))
      → IsTrue (is_some (conference_of after number)) → is_unseen group before number ≡ true
      → is_unseen group after number ≡ true
  pub text : (number : ℕ) → IsTrue (is_some (text_of before number))
      → IsTrue (is_some (text_of after number)) → is_unread group before number ≡ true
      → is_unread group after number ≡ true

-- stored rows that effects may be made of: they are whole, each secret conference is
-- read-protected, the effects fit, and are no Opening to the group
pub record IsReadyFor (group : Group) (effects : List Effect) (db : Db) : Type 0 where
  pub whole : IsWhole db
  pub protected : IsProtected db
  pub fit : IsTrue (all_fit effects db)
  pub closed : HasNoOpening group db (apply_all effects db)

-- Step consistency of the stored rows: the same effects leave states that are the same but for what
-- is hidden from a group the same but for what is hidden from it then. Nothing is said of who made
-- the effects: a call of the group, or of another.
abbrev pub EffectsStandErased : Type 0
EffectsStandErased = (group : Group) (effects : List Effect) (one other : Db)
    → IsReadyFor group effects one → IsReadyFor group effects other
    → erased_db group one ≡ erased_db group other
    → erased_db group (apply_all effects one) ≡ erased_db group (apply_all effects other)
