-- What a call that changes nothing sends brings nothing to a session.
use Rattle.std.proofs.Common.{◌≡◌, ℕ, Bool, true, false, cond, ◌&&◌, List, [], ◌∷◌, ◌++◌}
use Rattle.std.proofs.Common.{Option, Some, None, refl, ap, ap₂, ◌∙◌, true≢false}
use Rattle.std.specs.Prelude.{map, is_some, option_map}
use Rattle.std.specs.List.{cons_option}
use Rattle.kom_types.specs.declared.aux_items.AuxChange.{AuxChange}
use Rattle.kom_types.specs.declared.effects.Effect.{Effect}
use Rattle.kom_types.specs.declared.items.Item.TheVariants as item
use Rattle.kom_types.specs.declared.memberships.MembershipRow.{MembershipRow}
use Rattle.kom_types.specs.declared.messages.Message.{Message}
use Rattle.kom_types.specs.declared.seats.Seat.{Seat}
use Rattle.kom_model.specs.Messages.{text_aux_changed, told_if, new_membership}
use Rattle.kom_model.specs.Sending.{Delivery, Sending}
use Rattle.kom_model.specs.ToWhom.{items_named, items_made, is_refused}
use Rattle.kom_model.specs.calls.Call.{Asked, done_with}
use Rattle.kom_model.specs.calls.Guards.{Guard, caller, with_items}
use Rattle.kom_model.specs.calls.Memberships.{joins, set_member, is_near}
use Rattle.noninterference.specs.outputs.Brought.{brought_to}

pub some-none : {X : Type 0} {x : X} {xs : List X} → x ∷ xs ≡ [] → ⊥
some-none none = cc

pub append-some : {X : Type 0} (xs : List X) (x : X) (rest : List X) → xs ++ x ∷ rest ≡ [] → ⊥
append-some [] x rest none = some-none none
append-some (first ∷ xs) x rest none = some-none none

pub append-none : {X : Type 0} (xs rest : List X) → xs ++ rest ≡ [] → xs ≡ []
append-none [] rest none = refl
append-none (first ∷ xs) rest none = absurd (some-none none)

pub map-none : {X Y : Type 0} (make : X → Y) (xs : List X) → map make xs ≡ [] → xs ≡ []
map-none make [] none = refl
map-none make (x ∷ xs) none = absurd (some-none none)

module _ (asked : Asked) (seat : Seat) where
  abbrev pub brings_none : List Sending → Type 0
  brings_none sent = brought_to asked.db seat sent ≡ []

  -- a membership that is there sends nothing; one that is not is made
  pub member-silent : (person conference priority place kind : ℕ) (found : Option MembershipRow) →
      (elim found as (λ _. List Effect) [
        | None ↦ joins asked person conference priority place kind ∷ []
        | Some row ↦ cond (is_near asked.db (caller asked) person) (set_member row priority place kind ∷ []) []
      ]) ≡ [] →
      brings_none (cond (is_some found) [] (new_membership person conference ∷ []))
  member-silent person conference priority place kind None none = absurd (some-none none)
  member-silent person conference priority place kind (Some row) none = refl

  -- an item is told of, if some go or come
  told-none : (closed gets : Bool) (what : Message) →
      cond {A = Option Delivery} closed None (option_map
      (λ message. record { session = seat.number; item = item.Message message }) (told_if (gets && false) what)) ≡ None
  told-none true gets what = refl
  told-none false true what = refl
  told-none false false what = refl

  pub items-silent : (text : ℕ) → brings_none (text_aux_changed asked.db text [] [] ∷ [])
  items-silent text = ap (λ (one : Option Delivery). cons_option one []) (told-none _ _ _)

  pub change-silent : (given : AuxChange) (guard : Guard) (effects added : List Effect) →
      is_refused (with_items guard (done_with effects [])).reply ≡ false →
      (with_items guard (done_with effects [])).effects ≡ [] → (effects ≡ [] → given.delete ≡ []) → added ≡ [] →
      brings_none (text_aux_changed asked.db given.object (items_named asked.db given.object given.delete)
      (items_made added) ∷ [])
  change-silent given None effects added accepted none deletes adds =
      ap₂ (λ (gone : List ℕ) (made : List Effect). brought_to asked.db seat
      (text_aux_changed asked.db given.object (items_named asked.db given.object gone) (items_made made) ∷ []))
      (deletes none) adds ∙ items-silent given.object
  change-silent given (Some refused) effects added accepted none deletes adds = absurd (true≢false accepted)
