-- Items by their places in the lists of their texts and conferences.
use Rattle.std.proofs.Common.{◌≡◌, ℕ, Bool, true, false, eqb, List, find, Option, Some, None, is_some, option_map}
use Rattle.std.proofs.Common.{refl, sym, ap, ◌∙◌}
use Rattle.std.specs.Option.{option_flatten}
use Rattle.std.proofs.lemmas.Bool.{and_parts, eqb-true, false≢true}
use Rattle.kom_types.specs.Bits.{alike}
use Rattle.kom_types.specs.declared.aux_items.ItemRow.{ItemRow}
use Rattle.kom_types.specs.tables.AuxItems.{is_item, is_item_of}
use Rattle.row_slots.specs.Slots.{rows_in}
use Rattle.row_slots.proofs.Places.{row_at}
use Rattle.row_slots.proofs.Passing.{found, found_row}
use Rattle.aux_items.specs.Items.{item_numbered}
use Rattle.aux_items.specs.Keeping.{is_number_at, IsKept}

alike_same : (one other : Bool) → alike one other ≡ true → one ≡ other
alike_same true true same = refl
alike_same true false same = absurd (false≢true same)
alike_same false true same = absurd (false≢true same)
alike_same false false same = refl

-- what an item is on, and its number
pub item_parts : (on_text : Bool) (object number : ℕ) (row : ItemRow) → is_item on_text object number row ≡ true →
    (row.on_text ≡ on_text) × (row.object ≡ object) × (row.item.number ≡ number)
item_parts on_text object number row is =
    let all = and_parts (is_item_of on_text object row) (eqb row.item.number number) is in
    let on = and_parts (alike row.on_text on_text) (eqb row.object object) all.0 in (
      alike_same row.on_text on_text on.0,
      eqb-true row.object object on.1,
      eqb-true row.item.number number all.1,
    )

module _ (slots : List (Option ItemRow)) (of_objects : Bool → ℕ → List ℕ) (kept : IsKept slots of_objects)
    (on_text : Bool) (object number : ℕ) (places : List ℕ) (are : places ≡ of_objects on_text object) where
  -- the item by what is found of its place
  pub item_found : (place : Option ℕ) → place ≡ find (is_number_at slots number) places →
      item_numbered on_text object number (rows_in slots) ≡ option_flatten (option_map (row_at slots) place)
  item_found place is =
      found (λ row. eqb row.item.number number) (is_item_of on_text object) (is_item on_text object number)
      (λ row. refl) slots places (are ∙ kept.listed on_text object) place is

  -- the row at a place that was found
  pub row_found : (place : ℕ) → Some place ≡ find (is_number_at slots number) places →
      (row : ItemRow) × (row_at slots place ≡ Some row)
      × (item_numbered on_text object number (rows_in slots) ≡ Some row)
      × (is_item on_text object number row ≡ true)
  row_found place is =
      found_row (λ row. eqb row.item.number number) (is_item_of on_text object) (is_item on_text object number)
      (λ row. refl) slots places (are ∙ kept.listed on_text object) place is

  -- whether there is an item of the number, by whether a place was found
  pub is_found : (place : Option ℕ) → place ≡ find (is_number_at slots number) places →
      is_some place ≡ is_some (item_numbered on_text object number (rows_in slots))
  is_found None is = sym (ap is_some (item_found None is))
  is_found (Some place) is = sym (ap is_some (row_found place is).2)
