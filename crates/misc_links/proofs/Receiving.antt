-- Recipients by their places in the lists of their texts; and the recipients and the lists after one is added, and
-- after one is taken out.
use Rattle.std.proofs.Common.{◌≡◌, ℕ, true, cond, not, eqb, nat_eq, List, [], ◌∷◌, ◌++◌, length, filter, find, Option}
use Rattle.std.proofs.Common.{Some, None, option_map, refl, sym, ◌∙◌, ap, eq-eqb, arith}
use Rattle.std.specs.Option.{option_flatten}
use Rattle.std.specs.Set.{remove_key, is_member}
use Rattle.std.proofs.lemmas.Bool.{and_parts, and_from, eqb-true}
use Rattle.kom_types.specs.declared.texts.Recipient.{Recipient}
use Rattle.kom_types.specs.tables.Texts.{is_recipient, recipient_of, without_recipient}
use Rattle.row_slots.specs.Slots.{rows_in, empty_slot}
use Rattle.row_slots.proofs.Places.{row_at, places_of-push, places_of-emptied, is_member-places_of, rows_in-emptied}
use Rattle.row_slots.proofs.Rows.{rows_in-push}
use Rattle.misc_links.specs.Received.{AreOnce}
use Rattle.misc_links.specs.Receiving.{is_of, is_conference_at, IsKept}
use Rattle.row_slots.proofs.Passing.{found, found_row, none_pass, all_stay, fewer_pass, one_passes, distinct}

-- what a recipient is of
recipient_parts : (text conference : ℕ) (row : Recipient) → is_recipient text conference row ≡ true →
    (row.text ≡ text) × (row.conference ≡ conference)
recipient_parts text conference row is =
    let parts = and_parts (eqb row.text text) (eqb row.conference conference) is in
    (eqb-true row.text text parts.0, eqb-true row.conference conference parts.1)

-- without a recipient that is not there
pub without_none : (text conference : ℕ) (rows : List Recipient) → recipient_of text conference rows ≡ None →
    without_recipient text conference rows ≡ rows
without_none text conference rows none = all_stay (is_recipient text conference) rows none

module _ (slots : List (Option Recipient)) (by_text : ℕ → List ℕ) (kept : IsKept slots by_text) where
  pub are_once : AreOnce (rows_in slots)
  are_once =
      distinct (λ one. is_recipient one.text one.conference)
      (λ one. and_from (eqb one.text one.text) (eqb one.conference one.conference) (eq-eqb one.text one.text refl)
      (eq-eqb one.conference one.conference refl))
      (rows_in slots) (λ one. kept.once one.text one.conference)

  -- ---- a recipient is looked for

  module _ (text conference : ℕ) (places : List ℕ) (are : places ≡ by_text text) where
    -- the recipient by what is found of its place
    pub recipient_found : (place : Option ℕ) → place ≡ find (is_conference_at slots conference) places →
        recipient_of text conference (rows_in slots) ≡ option_flatten (option_map (row_at slots) place)
    recipient_found place is =
        found (λ row. eqb row.conference conference) (is_of text) (is_recipient text conference) (λ row. refl) slots
        places (are ∙ kept.listed text) place is

    -- the row at a place that was found
    pub row_found : (place : ℕ) → Some place ≡ find (is_conference_at slots conference) places →
        (row : Recipient) × (row_at slots place ≡ Some row) × (recipient_of text conference (rows_in slots) ≡ Some row)
        × (is_recipient text conference row ≡ true)
    row_found place is =
        found_row (λ row. eqb row.conference conference) (is_of text) (is_recipient text conference) (λ row. refl) slots
        places (are ∙ kept.listed text) place is

  -- ---- a recipient is added

  module _ (row : Recipient) (absent : recipient_of row.text row.conference (rows_in slots) ≡ None)
      (new : ℕ → List ℕ)
      (adds : (text : ℕ) → new text ≡ cond (eqb row.text text) (by_text text ++ length slots ∷ []) (by_text text)) where
    none_like_it : (text conference : ℕ) → is_recipient text conference row ≡ true →
        length (filter (is_recipient text conference) (rows_in slots)) ≡ 0
    none_like_it text conference is =
        let parts = recipient_parts text conference row is in
        none_pass (is_recipient text conference) (rows_in slots)
        (sym (λ i. recipient_of (parts.0 i) (parts.1 i) (rows_in slots)) ∙ absent)

    pub IsKept-added : IsKept (slots ++ Some row ∷ []) new
    IsKept-added = record {
      listed = λ text. adds text
          ∙ ap (λ places. cond (eqb row.text text) (places ++ length slots ∷ []) places) (kept.listed text)
          ∙ sym (places_of-push (is_of text) slots row);
      once = λ text conference. rw (rows_in-push slots row)
          (one_passes (is_recipient text conference) (rows_in slots) row (kept.once text conference)
          (none_like_it text conference));
    }

  -- ---- a recipient is taken out

  module _ (text conference place : ℕ) (row : Recipient) (there : row_at slots place ≡ Some row)
      (is : is_recipient text conference row ≡ true) where
    pub has_place : is_member nat_eq (by_text text) place ≡ true
    has_place =
        let parts = and_parts (eqb row.text text) (eqb row.conference conference) is in
        ap (λ places. is_member nat_eq places place) (kept.listed text)
        ∙ is_member-places_of (is_of text) place slots row there parts.0

    pub rows_left : rows_in (empty_slot place slots) ≡ without_recipient text conference (rows_in slots)
    rows_left = rows_in-emptied (is_recipient text conference) place slots row there is (kept.once text conference)

    module _ (new : ℕ → List ℕ)
        (takes : (other : ℕ) → new other
        ≡ cond (eqb text other) (remove_key (nat_eq place) (by_text other)) (by_text other)) where
      pub IsKept-left : IsKept (empty_slot place slots) new
      IsKept-left =
          let parts = recipient_parts text conference row is in
          let same_text = sym parts.0 in
          record {
            listed = λ other. takes other
                ∙ (λ i. cond (eqb (same_text i) other) (remove_key (nat_eq place) (kept.listed other i))
                (kept.listed other i))
                ∙ sym (places_of-emptied (is_of other) place slots row there);
            once = λ other_text other. rw rows_left
                (omega (
                  arith,
                  kept.once other_text other,
                  fewer_pass (is_recipient other_text other) (λ r. not (is_recipient text conference r))
                      (rows_in slots),
                ));
          }
