-- Room for each aux-item that effects add is room for all of them; and what adding one uses.
use Rattle.std.proofs.Common.{◌≡◌, ℕ, ◌+◌, ◌≤◌, Bool, true, false, cond, eqb, List, [], ◌∷◌, Option, Some, None}
use Rattle.std.proofs.Common.{is_some, count_by, All, refl, sym, subst, true≢false, arith}
use Rattle.std.proofs.lemmas.Bool.{eqb-true, eq-eqb, and_parts}
use Rattle.kom_types.specs.Bits.{alike}
use Rattle.kom_types.specs.declared.aux_items.AuxRow.{AuxRow}
use Rattle.kom_types.specs.declared.effects.Effect.{Effect}
use Rattle.kom_types.specs.declared.effects.Effect.TheVariants as effect
use Rattle.aux_items.specs.Items.{Attached, HasRoom, KeepsRoom, UsesRoom, room_on}
use Rattle.aux_items.specs.Objects.{is_same}
use Rattle.kom_state.specs.Room.{item_key, adds_item, adds_item_to, HasItemRoom}
use Rattle.kom_state.proofs.Rooms.{enough, fewer}
use Rattle.kom_state.proofs.Using.{count_by-cons}

-- where an effect adds an item, there is room for so many of its kind
pub record IsItemReservedFor (table : Attached) (count : ℕ) (what : Effect) : Type 0 where
  pub spare : adds_item what ≡ true → count ≤ table.spare
  pub of_objects : (on_text : Bool) (object : ℕ) → adds_item_to on_text object what ≡ true →
      count ≤ room_on table on_text object

pub IsItemReservedFor-kept : (old new : Attached) (count : ℕ) → KeepsRoom old new → (what : Effect) →
    IsItemReservedFor old count what → IsItemReservedFor new count what
IsItemReservedFor-kept old new count keeps what is = record {
  spare = λ does. let has : count ≤ old.spare = is.spare does in omega arith;
  of_objects = λ on_text object does.
      omega (arith, is.of_objects on_text object does, keeps.of_objects on_text object);
}

alike_same : (one other : Bool) → alike one other ≡ true → one ≡ other
alike_same true true same = refl
alike_same true false same = absurd (true≢false (sym same))
alike_same false true same = absurd (true≢false (sym same))
alike_same false false same = refl

pub IsItemReservedFor-added : (table : Attached) (count : ℕ) (on_text : Bool) (object : ℕ) (what : Effect) →
    item_key what ≡ Some (on_text, object) → HasRoom table on_text object count → IsItemReservedFor table count what
IsItemReservedFor-added table count on_text object what key has = record {
  spare = λ does. has.spare;
  of_objects = λ kind other does.
      let same : is_same on_text object kind other ≡ true = rw (key, adds_item_to) at does in
      let parts = and_parts (alike on_text kind) (eqb object other) same in
      subst (λ n. count ≤ room_on table kind n) (eqb-true object other parts.1)
      (subst (λ k. count ≤ room_on table k object) (alike_same on_text kind parts.0) has.of_object);
}

pub IsItemReservedFor-none : (table : Attached) (count : ℕ) (what : Effect) → item_key what ≡ None →
    IsItemReservedFor table count what
IsItemReservedFor-none table count what none = record {
  spare = λ does. absurd (true≢false (sym (rw none at does)));
  of_objects = λ kind other does. absurd (true≢false (sym (rw (none, adds_item_to) at does)));
}

to_object_adds : (on_text : Bool) (object : ℕ) (what : Effect) → adds_item_to on_text object what ≡ true →
    adds_item what ≡ true
to_object_adds on_text object what does = by (item_key what) refl does
  where
    by : (key : Option (Bool × ℕ)) → item_key what ≡ key → adds_item_to on_text object what ≡ true →
        is_some key ≡ true
    by None is does = absurd (true≢false (sym (rw (is, adds_item_to) at does)))
    by (Some key) is does = refl

pub HasItemRoom-from : (table : Attached) (count : ℕ) (effects : List Effect) →
    All (IsItemReservedFor table count) effects → count ≡ count_by adds_item effects → HasItemRoom table effects
HasItemRoom-from table count effects each is = record {
  spare = enough adds_item _ count effects (λ k d lt. (each k d lt).spare) (omega arith);
  of_objects = λ on_text object.
      enough (adds_item_to on_text object) _ count effects (λ k d lt. (each k d lt).of_objects on_text object)
      (omega (arith, fewer (adds_item_to on_text object) adds_item (to_object_adds on_text object) effects));
}

-- ---- one item is added
alike_self : (on_text : Bool) → alike on_text on_text ≡ true
alike_self true = refl
alike_self false = refl

same_self : (on_text : Bool) (object : ℕ) → is_same on_text object on_text object ≡ true
same_self on_text object = rw (alike_self on_text) (eq-eqb object object refl)

pub room_to_add : (room : Attached) (on_text : Bool) (object : ℕ) (item : AuxRow) →
    HasItemRoom room (effect.AuxAdded on_text object item ∷ []) → HasRoom room on_text object 1
room_to_add room on_text object item has = record {
  spare = has.spare;
  of_object =
      let one : cond {A = ℕ} (is_same on_text object on_text object) 1 0 ≡ 1 = rw (same_self on_text object) refl in
      omega (
        arith,
        has.of_objects on_text object,
        count_by-cons (adds_item_to on_text object) (effect.AuxAdded on_text object item) [],
        one,
      );
}

pub added_uses_spare : (old new : Attached) (on_text : Bool) (object : ℕ) (item : AuxRow) →
    UsesRoom old new on_text object →
    old.spare ≤ new.spare + cond (adds_item (effect.AuxAdded on_text object item)) 1 0
added_uses_spare old new on_text object item uses = uses.spare

pub added_uses_objects : (old new : Attached) (on_text : Bool) (object : ℕ) (item : AuxRow) →
    UsesRoom old new on_text object → (kind : Bool) (other : ℕ) →
    room_on old kind other
    ≤ room_on new kind other + cond (adds_item_to kind other (effect.AuxAdded on_text object item)) 1 0
added_uses_objects old new on_text object item uses = uses.of_objects
