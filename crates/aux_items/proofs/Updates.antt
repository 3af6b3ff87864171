-- The items and the lists of places after an item is added, and after one is taken out.
use Rattle.std.proofs.Common.{◌≡◌, ℕ, Bool, true, cond, not, ◌&&◌, eqb, nat_eq, List, [], ◌∷◌, ◌++◌, length, filter}
use Rattle.std.proofs.Common.{Option, Some, None, sym, ◌∙◌, ap, arith}
use Rattle.std.specs.Set.{remove_key, is_member}
use Rattle.std.proofs.lemmas.Bool.{and_parts}
use Rattle.kom_types.specs.Bits.{alike}
use Rattle.kom_types.specs.declared.aux_items.ItemRow.{ItemRow}
use Rattle.kom_types.specs.tables.AuxItems.{is_item, is_item_of, without_item}
use Rattle.row_slots.specs.Slots.{rows_in, empty_slot}
use Rattle.row_slots.proofs.Places.{row_at, places_of-push, places_of-emptied, is_member-places_of, rows_in-emptied}
use Rattle.row_slots.proofs.Rows.{rows_in-push}
use Rattle.row_slots.proofs.Passing.{none_pass, all_stay, fewer_pass, one_passes}
use Rattle.aux_items.specs.Items.{item_numbered}
use Rattle.aux_items.specs.Keeping.{IsKept}
use Rattle.aux_items.specs.Objects.{is_same}
use Rattle.aux_items.proofs.Finding.{item_parts}

-- without an item that is not there
pub without_none : (on_text : Bool) (object number : ℕ) (rows : List ItemRow) →
    item_numbered on_text object number rows ≡ None → without_item on_text object number rows ≡ rows
without_none on_text object number rows none = all_stay (is_item on_text object number) rows none

module _ (slots : List (Option ItemRow)) (of_objects : Bool → ℕ → List ℕ) (kept : IsKept slots of_objects) where
  -- ---- an item is added

  module _ (new : Bool → ℕ → List ℕ) (row : ItemRow)
      (absent : item_numbered row.on_text row.object row.item.number (rows_in slots) ≡ None)
      (adds : (kind : Bool) (other : ℕ) → new kind other
      ≡ cond (is_same row.on_text row.object kind other) (of_objects kind other ++ length slots ∷ [])
      (of_objects kind other)) where
    none_like_it : (kind : Bool) (other number : ℕ) → is_item kind other number row ≡ true →
        length (filter (is_item kind other number) (rows_in slots)) ≡ 0
    none_like_it kind other number is =
        let parts = item_parts kind other number row is in
        none_pass (is_item kind other number) (rows_in slots)
        (sym (λ i. item_numbered (parts.0 i) (parts.1 i) (parts.2 i) (rows_in slots)) ∙ absent)

    pub IsKept-added : IsKept (slots ++ Some row ∷ []) new
    IsKept-added = record {
      listed = λ kind other. adds kind other
          ∙ ap (λ places. cond (is_same row.on_text row.object kind other) (places ++ length slots ∷ []) places)
          (kept.listed kind other)
          ∙ sym (places_of-push (is_item_of kind other) slots row);
      once = λ kind other number. rw (rows_in-push slots row)
          (one_passes (is_item kind other number) (rows_in slots) row (kept.once kind other number)
          (none_like_it kind other number));
    }

  -- ---- an item is taken out

  module _ (on_text : Bool) (object number place : ℕ) (row : ItemRow) (there : row_at slots place ≡ Some row)
      (is : is_item on_text object number row ≡ true) where
    pub has_place : is_member nat_eq (of_objects on_text object) place ≡ true
    has_place =
        ap (λ places. is_member nat_eq places place) (kept.listed on_text object)
        ∙ is_member-places_of (is_item_of on_text object) place slots row there
        (and_parts (is_item_of on_text object row) (eqb row.item.number number) is).0

    pub rows_left : rows_in (empty_slot place slots) ≡ without_item on_text object number (rows_in slots)
    rows_left =
        rows_in-emptied (is_item on_text object number) place slots row there is (kept.once on_text object number)

    module _ (new : Bool → ℕ → List ℕ)
        (takes : (kind : Bool) (other : ℕ) → new kind other
        ≡ cond (is_same on_text object kind other) (remove_key (nat_eq place) (of_objects kind other))
        (of_objects kind other)) where
      pub IsKept-left : IsKept (empty_slot place slots) new
      IsKept-left =
          let parts = item_parts on_text object number row is in
          let same_kind = sym parts.0 in
          let same_object = sym parts.1 in
          record {
            listed = λ kind other. takes kind other
                ∙ (λ i. cond (alike (same_kind i) kind && eqb (same_object i) other)
                (remove_key (nat_eq place) (kept.listed kind other i)) (kept.listed kind other i))
                ∙ sym (places_of-emptied (is_item_of kind other) place slots row there);
            once = λ kind other one. rw rows_left
                (omega (
                  arith,
                  kept.once kind other one,
                  fewer_pass (is_item kind other one) (λ r. not (is_item on_text object number r)) (rows_in slots),
                ));
          }
