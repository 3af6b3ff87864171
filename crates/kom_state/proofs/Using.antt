-- The room that an effect uses, and what it leaves for the effects after it.
use Rattle.std.proofs.Common.{◌≡◌, ℕ, ◌+◌, ◌≤◌, Bool, cond, List, [], ◌∷◌, Option, Some, None, refl, sym, subst, arith}
use Rattle.std.specs.List.{cons_option}
use Rattle.std.proofs.Common.{count_by}
use Rattle.std.proofs.lemmas.List.Sums.{sum_by-cons}
use Rattle.kom_types.specs.declared.effects.Effect.{Effect}
use Rattle.aux_items.specs.Items.{room_on}
use Rattle.row_slots.specs.Lists.{room_in}
use Rattle.texts.specs.Needs.{UsesRoom as UsesTextRoom}
use Rattle.kom_state.specs.Room.{Room, adds_conference, adds_person, sets_membership, sets_for_person}
use Rattle.kom_state.specs.Room.{sets_in_conference, name_given, IsReady, HasRoom, needs_of, all_needs}
use Rattle.kom_state.specs.Room.{adds_item, adds_item_to}
use Rattle.kom_state.proofs.Needed.{count_of-append}

-- what room falls, and that the name stays ready where none is given
pub record Uses (what : Effect) (old new : Room) : Type 0 where
  pub conferences : old.conferences ≤ new.conferences + cond (adds_conference what) 1 0
  pub persons : old.persons ≤ new.persons + cond (adds_person what) 1 0
  pub memberships : old.memberships ≤ new.memberships + cond (sets_membership what) 1 0
  pub of_person : (number : ℕ) → room_in old.of_person number
      ≤ room_in new.of_person number + cond (sets_for_person number what) 1 0
  pub of_conference : (number : ℕ) → room_in old.of_conference number
      ≤ room_in new.of_conference number + cond (sets_in_conference number what) 1 0
  pub name : name_given what ≡ None → new.name ≡ old.name
  pub texts : UsesTextRoom old.texts new.texts (needs_of what)
  pub items : old.items.spare ≤ new.items.spare + cond (adds_item what) 1 0
  pub of_objects : (kind : Bool) (other : ℕ) → room_on old.items kind other
      ≤ room_on new.items kind other + cond (adds_item_to kind other what) 1 0

ready_after : (given : Option (List ℕ)) (names : List (List ℕ)) (old new : Option (List ℕ)) →
    (given ≡ None → new ≡ old) → IsReady old (cons_option given names) → IsReady new names
ready_after None names old new same ready = subst (λ r. IsReady r names) (sym (same refl)) ready
ready_after (Some name) [] old new same ready = tt
ready_after (Some name) (second ∷ names) old new same ready = absurd ready

pub count_by-cons : (p : Effect → Bool) (what : Effect) (rest : List Effect) →
    count_by p (what ∷ rest) ≡ cond (p what) 1 0 + count_by p rest
count_by-cons p what rest = sum_by-cons (λ what. cond (p what) 1 0) what rest

pub HasRoom-after : (what : Effect) (old new : Room) → Uses what old new → (rest : List Effect) →
    HasRoom old (what ∷ rest) → HasRoom new rest
HasRoom-after what old new uses rest has = record {
  conferences = omega (arith, count_by-cons adds_conference what rest);
  persons = omega (arith, count_by-cons adds_person what rest);
  memberships = omega (arith, count_by-cons sets_membership what rest);
  of_person = λ number. omega (
    arith,
    has.of_person number,
    uses.of_person number,
    count_by-cons (sets_for_person number) what rest,
  );
  of_conference = λ number. omega (
    arith,
    has.of_conference number,
    uses.of_conference number,
    count_by-cons (sets_in_conference number) what rest,
  );
  name = ready_after _ _ _ _ uses.name has.name;
  texts = λ need. omega (
    arith,
    has.texts need,
    uses.texts need,
    count_of-append need (needs_of what) (all_needs rest),
  );
  items = record {
    spare = omega (arith, has.items.spare, uses.items, count_by-cons adds_item what rest);
    of_objects = λ kind other. omega (
      arith,
      has.items.of_objects kind other,
      uses.of_objects kind other,
      count_by-cons (adds_item_to kind other) what rest,
    );
  };
}

ready_first : (given : Option (List ℕ)) (names : List (List ℕ)) (ready : Option (List ℕ)) →
    IsReady ready (cons_option given names) → IsReady ready (cons_option given [])
ready_first None names ready is = tt
ready_first (Some name) [] ready is = is
ready_first (Some name) (second ∷ names) ready is = absurd is

-- room for effects is room for the first of them alone
pub HasRoom-first : (what : Effect) (room : Room) (rest : List Effect) → HasRoom room (what ∷ rest) →
    HasRoom room (what ∷ [])
HasRoom-first what room rest has = record {
  conferences = omega (arith, count_by-cons adds_conference what rest, count_by-cons adds_conference what []);
  persons = omega (arith, count_by-cons adds_person what rest, count_by-cons adds_person what []);
  memberships = omega (arith, count_by-cons sets_membership what rest, count_by-cons sets_membership what []);
  of_person = λ number. omega (
    arith,
    has.of_person number,
    count_by-cons (sets_for_person number) what rest,
    count_by-cons (sets_for_person number) what [],
  );
  of_conference = λ number. omega (
    arith,
    has.of_conference number,
    count_by-cons (sets_in_conference number) what rest,
    count_by-cons (sets_in_conference number) what [],
  );
  name = ready_first _ _ _ has.name;
  texts = λ need. omega (
    arith,
    has.texts need,
    count_of-append need (needs_of what) (all_needs rest),
    count_of-append need (needs_of what) (all_needs []),
  );
  items = record {
    spare = omega (
      arith,
      has.items.spare,
      count_by-cons adds_item what rest,
      count_by-cons adds_item what [],
    );
    of_objects = λ kind other. omega (
      arith,
      has.items.of_objects kind other,
      count_by-cons (adds_item_to kind other) what rest,
      count_by-cons (adds_item_to kind other) what [],
    );
  };
}
