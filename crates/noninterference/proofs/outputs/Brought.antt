-- What messages bring to a session of a group is the same without what is hidden from the group.
use Rattle.std.proofs.Common.{◌≡◌, ℕ, Bool, true, false, cond, not, ◌==◌, ◌||◌, List, [], ◌∷◌, ◌++◌, Option, Some}
use Rattle.std.proofs.Common.{None, refl, sym, ap, ap₂, ◌∙◌, inl, inr}
use Rattle.std.specs.Prelude.{option_map}
use Rattle.std.specs.List.{filter_map, cons_option, AllByRecursion}
use Rattle.std.proofs.lemmas.Bool.{cases_Bool}
use Rattle.std.proofs.lemmas.List.Elements.{filter_map-append}
use Rattle.kom_types.specs.declared.calls.Call.{Call}
use Rattle.kom_types.specs.declared.decisions.Decision.{Decision}
use Rattle.kom_types.specs.declared.items.Item.TheVariants as item
use Rattle.kom_types.specs.declared.messages.Message.{Message}
use Rattle.kom_types.specs.declared.seats.Seat.{Seat}
use Rattle.kom_model.specs.declared.viewers.Viewer.{Viewer}
use Rattle.kom_model.specs.Db.{Db}
use Rattle.kom_model.specs.Decide.{decision_of}
use Rattle.kom_model.specs.Effects.{IsProtected}
use Rattle.kom_model.specs.Sending.{Delivery, Sending, delivery_to, accepts}
use Rattle.kom_model.specs.ToWhom.{sendings, sent_by, logged_out, logged_in}
use Rattle.kom_model.specs.ToWhom.{is_refused}
use Rattle.kom_model.specs.Viewers.{viewer_of}
use Rattle.kom_model.specs.Whole.{IsWhole}
use Rattle.kom_model.specs.calls.Call.{Asked}
use Rattle.kom_laws.proofs.masking.Rows.{told}
use Rattle.kom_laws.specs.Groups.{Group, IsInGroup, IsOfGroup}
use Rattle.kom_laws.specs.Erasing.{erased_db, mask_of}
use Rattle.kom_laws.specs.Laws.{told_to}
use Rattle.kom_laws.proofs.Calls.{sent-erased}
use Rattle.noninterference.specs.outputs.Answers.{erased_asked}
use Rattle.noninterference.specs.outputs.Brought.{brought_to, MessagesStandErased}
use Rattle.noninterference.proofs.outputs.Alike.{viewer-same, logged-in}
use Rattle.noninterference.proofs.outputs.Answering.{decided}
use Rattle.noninterference.proofs.outputs.Numbered.{IsNumbered, number_of}
use Rattle.noninterference.proofs.outputs.calls.Calls.{sent-numbered}
use Rattle.noninterference.proofs.outputs.Masked.{public-masked}
use Rattle.noninterference.proofs.outputs.Rows.{filter_map-tells}

-- ---- what comes to a session, by what is told who looks from it
module _ (seat : Seat) where
  abbrev bring : Message → Option Delivery
  bring what = cond (seat.person == 0 || not (accepts (number_of what) seat)) None
      (Some (record { session = seat.number; item = item.Message what }))

  told-brought : (number : ℕ) (found : Option Message) →
      ((what : Message) → found ≡ Some what → number_of what ≡ number) →
      cond (seat.person == 0 || not (accepts number seat)) None
      (option_map (λ message. record { session = seat.number; item = item.Message message }) found)
      ≡ told None bring found
  told-brought number None numbered = nothing (seat.person == 0 || not (accepts number seat)) where
    nothing : (passes : Bool) → cond {A = Option Delivery} passes None None ≡ None
    nothing true = refl
    nothing false = refl
  told-brought number (Some what) numbered =
      ap (λ number. cond (seat.person == 0 || not (accepts number seat)) None
      (Some (record { session = seat.number; item = item.Message what }))) (sym (numbered what refl))

  picked-once : (first : Option Message) (others : List Message) →
      filter_map bring (cons_option first others) ≡ cons_option (told None bring first) (filter_map bring others)
  picked-once None others = refl
  picked-once (Some what) others = refl

  brought-told : (db : Db) (sent : List Sending) → AllByRecursion IsNumbered sent →
      brought_to db seat sent ≡ filter_map bring (told_to (viewer_of db seat) sent)
  brought-told db [] numbered = refl
  brought-told db (sending ∷ sent) numbered =
      ap₂ (λ (first : Option Delivery) (others : List Delivery). cons_option first others)
      (told-brought sending.number (sending.told (viewer_of db seat)) (numbered.0.tells (viewer_of db seat)))
      (brought-told db sent numbered.1)
      ∙ sym (picked-once (sending.told (viewer_of db seat)) (told_to (viewer_of db seat) sent))

  -- nothing comes to a session in which nobody is logged in
  nobody-brought : (db : Db) (sent : List Sending) → (seat.person == 0) ≡ true → brought_to db seat sent ≡ []
  nobody-brought db [] nobody = refl
  nobody-brought db (sending ∷ sent) nobody = rw nobody (nobody-brought db sent nobody)

module _ (group : Group) (asked : Asked) (call : Call) (seat : Seat) (protected : IsProtected asked.db)
    (whole : IsWhole asked.db) (of_group : IsOfGroup group (viewer_of asked.db seat)) where
  abbrev one : Db
  one = erased_db group asked.db

  looks : viewer_of one seat ≡ viewer_of asked.db seat
  looks = viewer-same one asked.db (public-masked (mask_of group asked.db) asked.db) (Some seat)

  -- the same messages bring the same
  same-brought : (sent : List Sending) → brought_to one seat sent ≡ brought_to asked.db seat sent
  same-brought sent = filter_map-tells _ _ (λ (sending : Sending). ap (λ (viewer : Viewer).
      cond (seat.person == 0 || not (accepts sending.number seat)) None
      (option_map (λ message. record { session = seat.number; item = item.Message message }) (sending.told viewer)))
      looks) sent

  sent-brought : (decision : Decision) → IsInGroup group (viewer_of asked.db seat) →
      brought_to one seat (sent_by (erased_asked group asked) decision call)
      ≡ brought_to asked.db seat (sent_by asked decision call)
  sent-brought decision in_group =
      brought-told seat one _ (sent-numbered (erased_asked group asked) decision call)
      ∙ ap (λ viewer. filter_map (bring seat) (told_to viewer (sent_by (erased_asked group asked) decision call))) looks
      ∙ ap (filter_map (bring seat))
      (sent-erased group asked (viewer_of asked.db seat) decision protected whole in_group call)
      ∙ sym (brought-told seat asked.db _ (sent-numbered asked decision call))

  unless-refused : (refused : Bool) (decision : Decision) → IsInGroup group (viewer_of asked.db seat) →
      brought_to one seat (cond refused [] (sent_by (erased_asked group asked) decision call))
      ≡ brought_to asked.db seat (cond refused [] (sent_by asked decision call))
  unless-refused true decision in_group = refl
  unless-refused false decision in_group = sent-brought decision in_group

  somebody-brought : (decision : Decision) → IsInGroup group (viewer_of asked.db seat) →
      brought_to one seat (sendings (erased_asked group asked) call decision)
      ≡ brought_to asked.db seat (sendings asked call decision)
  somebody-brought decision in_group =
      let before : List Sending = filter_map (logged_out asked) decision.changes
      ++ filter_map logged_in decision.changes in
      filter_map-append (λ sending. delivery_to one sending seat) before _
      ∙ ap₂ (λ (first others : List Delivery). first ++ others) (same-brought before)
      (unless-refused (is_refused decision.reply) decision in_group)
      ∙ sym (filter_map-append (λ sending. delivery_to asked.db sending seat) before _)

  brought-erased : (decision : Decision) → brought_to one seat (sendings (erased_asked group asked) call decision)
      ≡ brought_to asked.db seat (sendings asked call decision)
  brought-erased decision = elim (cases_Bool (seat.person == 0)) [
    | inl nobody ↦ nobody-brought seat one _ nobody ∙ sym (nobody-brought seat asked.db _ nobody)
    | inr somebody ↦ somebody-brought decision
        (logged-in group (viewer_of asked.db seat) of_group (rw somebody refl))
  ]

pub messages-erased : MessagesStandErased
messages-erased = record {
  brought = λ group asked call decision seat protected whole of_group.
      brought-erased group asked call seat protected whole of_group decision;
  called = λ group asked call seat protected whole calls of_group.
      ap (λ decision. brought_to (erased_db group asked.db) seat (sendings (erased_asked group asked) call decision))
      (decided group asked call protected calls)
      ∙ brought-erased group asked call seat protected whole of_group (decision_of asked call);
}
