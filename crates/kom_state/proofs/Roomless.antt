-- Effects that need no room but that for texts find all other room there.
use Rattle.std.proofs.Common.{◌≡◌, ℕ, ◌+◌, Bool, true, false, cond, List, [], ◌∷◌, Option, None, count_by, refl}
use Rattle.std.proofs.Common.{sym, ap, subst, ◌∙◌, true≢false, arith}
use Rattle.std.specs.List.{filter_map, cons_option, list_all}
use Rattle.std.proofs.lemmas.Bool.{and_parts}
use Rattle.texts.specs.Needs.{HasRoom as HasTextRoom}
use Rattle.kom_types.specs.declared.effects.Effect.{Effect}
use Rattle.kom_types.specs.declared.effects.Effect.TheVariants as effect
use Rattle.kom_state.specs.Room.{Room, HasRoom, IsReady, is_roomless, all_needs, key_set, item_key, name_given}
use Rattle.kom_state.specs.Room.{adds_conference, adds_person, adds_item, adds_item_to, sets_membership}
use Rattle.kom_state.specs.Room.{sets_for_person, sets_in_conference}
use Rattle.kom_state.proofs.Using.{count_by-cons}

-- an effect takes none of the room that a table other than texts has
record IsRoomless (what : Effect) : Type 0 where
  conference : adds_conference what ≡ false
  person : adds_person what ≡ false
  member : key_set what ≡ None
  item : item_key what ≡ None
  name : name_given what ≡ None

roomless : (what : Effect) → is_roomless what ≡ true → IsRoomless what
roomless (effect.ConfAdded a b c d e f) is = absurd (true≢false (sym is))
roomless (effect.ConfGone a) is =
    record { conference = refl; person = refl; member = refl; item = refl; name = refl }
roomless (effect.ConfNamed a b) is = absurd (true≢false (sym is))
roomless (effect.ConfField a b) is =
    record { conference = refl; person = refl; member = refl; item = refl; name = refl }
roomless (effect.PersonAdded a b c d) is = absurd (true≢false (sym is))
roomless (effect.PersonGone a) is =
    record { conference = refl; person = refl; member = refl; item = refl; name = refl }
roomless (effect.PersonField a b) is =
    record { conference = refl; person = refl; member = refl; item = refl; name = refl }
roomless (effect.Password a b) is =
    record { conference = refl; person = refl; member = refl; item = refl; name = refl }
roomless (effect.LoggedIn a b c) is =
    record { conference = refl; person = refl; member = refl; item = refl; name = refl }
roomless (effect.Counted a b c) is =
    record { conference = refl; person = refl; member = refl; item = refl; name = refl }
roomless (effect.TextAdded a b c d) is =
    record { conference = refl; person = refl; member = refl; item = refl; name = refl }
roomless (effect.TextGone a) is =
    record { conference = refl; person = refl; member = refl; item = refl; name = refl }
roomless (effect.RecipientAdded a) is =
    record { conference = refl; person = refl; member = refl; item = refl; name = refl }
roomless (effect.RecipientGone a b) is =
    record { conference = refl; person = refl; member = refl; item = refl; name = refl }
roomless (effect.LinkAdded a) is =
    record { conference = refl; person = refl; member = refl; item = refl; name = refl }
roomless (effect.LinkGone a b c) is =
    record { conference = refl; person = refl; member = refl; item = refl; name = refl }
roomless (effect.MemberSet a b c d e f g) is = absurd (true≢false (sym is))
roomless (effect.MemberGone a b) is =
    record { conference = refl; person = refl; member = refl; item = refl; name = refl }
roomless (effect.ReadSet a b c d) is =
    record { conference = refl; person = refl; member = refl; item = refl; name = refl }
roomless (effect.MarkSet a b c) is =
    record { conference = refl; person = refl; member = refl; item = refl; name = refl }
roomless (effect.MarkGone a b) is =
    record { conference = refl; person = refl; member = refl; item = refl; name = refl }
roomless (effect.AuxAdded a b c) is = absurd (true≢false (sym is))
roomless (effect.AuxGone a b c) is =
    record { conference = refl; person = refl; member = refl; item = refl; name = refl }
roomless (effect.Created a b c) is =
    record { conference = refl; person = refl; member = refl; item = refl; name = refl }

module _ (p : Effect → Bool) (passes : (what : Effect) → is_roomless what ≡ true → p what ≡ false) where
  none_of : (effects : List Effect) → list_all is_roomless effects ≡ true → count_by p effects ≡ 0
  none_of [] all = refl
  none_of (what ∷ effects) all =
      let parts = and_parts (is_roomless what) (list_all is_roomless effects) all in
      let none : 0 + count_by p effects ≡ count_by p effects = omega arith in
      count_by-cons p what effects
      ∙ ap (λ (b : Bool). cond b 1 0 + count_by p effects) (passes what parts.0)
      ∙ none
      ∙ none_of effects parts.1

no_name : (effects : List Effect) → list_all is_roomless effects ≡ true → filter_map name_given effects ≡ []
no_name [] all = refl
no_name (what ∷ effects) all =
    let parts = and_parts (is_roomless what) (list_all is_roomless effects) all in
    ap (λ (given : Option (List ℕ)). cons_option given (filter_map name_given effects)) (roomless what parts.0).name
    ∙ no_name effects parts.1

pub roomless_room : (room : Room) (effects : List Effect) → list_all is_roomless effects ≡ true
    → HasTextRoom room.texts (all_needs effects) → HasRoom room effects
roomless_room room effects all texts = record {
  conferences = omega (arith, none_of adds_conference (λ what is. (roomless what is).conference) effects all);
  persons = omega (arith, none_of adds_person (λ what is. (roomless what is).person) effects all);
  memberships =
      omega (arith, none_of sets_membership (λ what is. rw (roomless what is).member refl) effects all);
  of_person = λ number.
      omega (
        arith,
        none_of (sets_for_person number)
            (λ what is. rw ((roomless what is).member, sets_for_person) refl) effects all,
      );
  of_conference = λ number.
      omega (
        arith,
        none_of (sets_in_conference number)
            (λ what is. rw ((roomless what is).member, sets_in_conference) refl) effects all,
      );
  name = subst (IsReady room.name) (sym (no_name effects all)) tt;
  texts = texts;
  items = record {
    spare = omega (arith, none_of adds_item (λ what is. rw (roomless what is).item refl) effects all);
    of_objects = λ on_text object.
        omega (
          arith,
          none_of (adds_item_to on_text object)
              (λ what is. rw ((roomless what is).item, adds_item_to) refl) effects all,
        );
  };
}
