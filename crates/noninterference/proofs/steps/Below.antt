-- Rows that are the same but for what a mask hides are the same but for what is hidden from a group, where that is no
-- less.
use mathlib.Core.Path.{fun_ext}
use Rattle.std.proofs.Common.{◌≡◌, ℕ, not, sym, ap, ◌∙◌}
use Rattle.kom_model.specs.Db.{Db}
use Rattle.kom_model.specs.Effects.{IsProtected}
use Rattle.kom_model.specs.Kinds.{is_among}
use Rattle.kom_laws.specs.masking.Laws.{HidesMore}
use Rattle.kom_laws.specs.masking.Masks.{Mask, masked_db}
use Rattle.kom_laws.proofs.masking.Stepping.{wider-masked}
use Rattle.kom_laws.specs.Erasing.{erased_db, mask_of}
use Rattle.kom_laws.specs.Groups.{Group, is_unseen, is_unread}
use Rattle.kom_laws.proofs.Rights.{unseen-masked, hidden-masked, hidden-erased}

-- what is hidden from a group is a mask
masks : (group : Group) (one other : Db) →
    ((number : ℕ) → is_unseen group one number ≡ is_unseen group other number) →
    ((number : ℕ) → is_unread group one number ≡ is_unread group other number) →
    mask_of group one ≡ mask_of group other
masks group one other unseen unread =
    let conference : (λ number. is_unseen group one number) ≡ (λ number. is_unseen group other number) =
    fun_ext unseen in
    let text : (λ number. is_unread group one number) ≡ (λ number. is_unread group other number) = fun_ext unread in
    λ i. record {
      conference = conference i;
      text = text i;
      person = λ person. not (is_among group.persons person);
    }

-- where the rows are the same but for what is hidden from a group, the same is hidden
module _ (group : Group) (one other : Db) (protected : IsProtected one) (protected' : IsProtected other)
    (same : erased_db group one ≡ erased_db group other) where
  pub unseen-erased : (number : ℕ) → is_unseen group one number ≡ is_unseen group other number
  unseen-erased number = sym (unseen-masked group (mask_of group one) one number)
      ∙ ap (λ db. is_unseen group db number) same ∙ unseen-masked group (mask_of group other) other number

  pub unread-erased : (number : ℕ) → is_unread group one number ≡ is_unread group other number
  unread-erased number = sym ((hidden-erased group one protected).unread number)
      ∙ ap (λ db. is_unread group db number) same ∙ (hidden-erased group other protected').unread number

  pub masks-erased : mask_of group one ≡ mask_of group other
  masks-erased = masks group one other unseen-erased unread-erased

-- and where they are the same but for what a mask hides
module _ (group : Group) (mask : Mask) (one other : Db) (protected : IsProtected one) (protected' : IsProtected other)
    (hides : HidesMore mask (mask_of group one)) (hides' : HidesMore mask (mask_of group other))
    (same : masked_db mask one ≡ masked_db mask other) where
  unseen-same : (number : ℕ) → is_unseen group one number ≡ is_unseen group other number
  unseen-same number = sym (unseen-masked group mask one number) ∙ ap (λ db. is_unseen group db number) same
      ∙ unseen-masked group mask other number

  unread-same : (number : ℕ) → is_unread group one number ≡ is_unread group other number
  unread-same number = sym ((hidden-masked group mask one protected hides).unread number)
      ∙ ap (λ db. is_unread group db number) same ∙ (hidden-masked group mask other protected' hides').unread number

  pub erased-below : erased_db group one ≡ erased_db group other
  erased-below = sym (wider-masked mask (mask_of group one) one hides)
      ∙ ap (masked_db (mask_of group one)) same
      ∙ ap (λ wider. masked_db wider (masked_db mask other)) (masks group one other unseen-same unread-same)
      ∙ wider-masked mask (mask_of group other) other hides'
