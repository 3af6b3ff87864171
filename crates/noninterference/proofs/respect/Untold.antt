-- Nobody of a group is told anything of a conference that it does not see, or of a text that it does not read.
use Rattle.std.proofs.Common.{◌≡◌, ℕ, Bool, true, false, cond, not, ◌==◌, ◌||◌, List, [], ◌∷◌, Option, Some, None, refl}
use Rattle.std.proofs.Common.{ap, ap₂, ◌∙◌, inl, inr}
use Rattle.std.specs.Prelude.{option_map}
use Rattle.std.specs.List.{cons_option, AllByRecursion}
use Rattle.std.proofs.lemmas.Bool.{cases_Bool, both_ways}
use Rattle.kom_types.specs.declared.items.Item.TheVariants as item
use Rattle.kom_types.specs.declared.seats.Seat.{Seat}
use Rattle.kom_model.specs.declared.viewers.Viewer.{Viewer}
use Rattle.kom_model.specs.Db.{Db}
use Rattle.kom_model.specs.Effects.{IsProtected}
use Rattle.kom_model.specs.Messages.{takes, gets_text}
use Rattle.kom_model.specs.Rights.{sees, reads_conference}
use Rattle.kom_model.specs.Sending.{Delivery, Sending, delivery_to, accepts}
use Rattle.kom_model.specs.Viewers.{viewer_of}
use Rattle.kom_model.specs.Whole.{IsWhole}
use Rattle.kom_laws.specs.Groups.{Group, IsInGroup, IsOfGroup, is_unseen, is_unread}
use Rattle.kom_laws.proofs.Messages.{takes-seen, unread-by, unread-lost}
use Rattle.kom_laws.proofs.Rights.{seen-by, reads-sees}
use Rattle.noninterference.specs.outputs.Brought.{brought_to}
use Rattle.noninterference.proofs.outputs.Alike.{logged-in}

-- ---- messages that tell nothing bring nothing
abbrev pub AreUntold : Viewer → List Sending → Type 0
AreUntold viewer sent = AllByRecursion (λ sending. sending.told viewer ≡ None) sent

nothing : {X : Type 0} (passes : Bool) → cond {A = Option X} passes None None ≡ None
nothing true = refl
nothing false = refl

module _ (db : Db) (seat : Seat) where
  untold-delivered : (sending : Sending) → sending.told (viewer_of db seat) ≡ None → delivery_to db sending seat ≡ None
  untold-delivered sending untold =
      ap (λ found. cond (seat.person == 0 || not (accepts sending.number seat)) None
      (option_map (λ message. record { session = seat.number; item = item.Message message }) found)) untold
      ∙ nothing (seat.person == 0 || not (accepts sending.number seat))

  untold-brought : (sent : List Sending) → AreUntold (viewer_of db seat) sent → brought_to db seat sent ≡ []
  untold-brought [] untold = refl
  untold-brought (sending ∷ sent) untold =
      ap₂ (λ (first : Option Delivery) (others : List Delivery). cons_option first others)
      (untold-delivered sending untold.0) (untold-brought sent untold.1)

  nobody-brought : (sent : List Sending) → (seat.person == 0) ≡ true → brought_to db seat sent ≡ []
  nobody-brought [] nobody = refl
  nobody-brought (sending ∷ sent) nobody = rw nobody (nobody-brought sent nobody)

  pub none-brought : (group : Group) (sent : List Sending) → IsOfGroup group (viewer_of db seat) →
      (IsInGroup group (viewer_of db seat) → AreUntold (viewer_of db seat) sent) → brought_to db seat sent ≡ []
  none-brought group sent of_group untold = elim (cases_Bool (seat.person == 0)) [
    | inl nobody ↦ nobody-brought sent nobody
    | inr somebody ↦ untold-brought sent
        (untold (logged-in group (viewer_of db seat) of_group (rw somebody refl)))
  ]

-- the message of a row that may be there
pub row-untold : {X : Type 0} (viewer : Viewer) (send : X → Sending) (found : Option X) →
    ((row : X) → (send row).told viewer ≡ None) →
    AreUntold viewer (elim found [ None ↦ [] | Some row ↦ send row ∷ [] ])
row-untold viewer send None untold = tt
row-untold viewer send (Some row) untold = (untold row, tt)

-- ---- what is hidden from the group is hidden from each of it
unless-true : (may : Bool) → (may ≡ true → ⊥) → may ≡ false
unless-true true wrong = absurd (wrong refl)
unless-true false wrong = refl

module _ (group : Group) (db : Db) (viewer : Viewer) where
  pub unseen-fails : (conference : ℕ) → IsOfGroup group viewer → is_unseen group db conference ≡ true →
      sees db viewer conference ≡ false
  unseen-fails conference of_group unseen = unless-true (sees db viewer conference)
      (λ is. both_ways (is_unseen group db conference) (seen-by group db viewer conference of_group is) unseen)

  pub unseen-untaken : (conference : ℕ) → IsWhole db → IsInGroup group viewer → is_unseen group db conference ≡ true →
      takes db viewer.person conference ≡ false
  unseen-untaken conference whole in_group unseen = unless-true (takes db viewer.person conference)
      (λ is. both_ways (is_unseen group db conference) (takes-seen group db viewer conference whole in_group is) unseen)

  pub unseen-unread : (conference : ℕ) → IsProtected db → IsOfGroup group viewer →
      is_unseen group db conference ≡ true → reads_conference db viewer conference ≡ false
  unseen-unread conference protected of_group unseen = unless-true (reads_conference db viewer conference)
      (λ is. both_ways (is_unseen group db conference)
      (seen-by group db viewer conference of_group (reads-sees db viewer conference protected is)) unseen)

  pub unread-ungot : (text : ℕ) → IsInGroup group viewer → is_unread group db text ≡ true →
      gets_text db viewer text ≡ false
  unread-ungot text in_group unread = unread-lost db viewer text (unread-by group db viewer text in_group unread)
