-- The marks and the lists of places after a mark is added, after one is changed, and after one is taken out.
use Rattle.std.proofs.Common.{◌≡◌, ℕ, true, false, cond, not, ◌&&◌, eqb, nat_eq, List, [], ◌∷◌, ◌++◌, length, map}
use Rattle.std.proofs.Common.{filter, Option, Some, None, refl, sym, ◌∙◌, ap, arith}
use Rattle.std.specs.Set.{remove_key, is_member}
use Rattle.std.proofs.lemmas.Bool.{and_parts}
use Rattle.kom_types.specs.declared.texts.MarkRow.{MarkRow}
use Rattle.kom_types.specs.tables.Texts.{is_mark, mark_of, with_mark, without_mark}
use Rattle.row_slots.specs.Slots.{rows_in, empty_slot, replace_row}
use Rattle.row_slots.proofs.Places.{row_at, places_of-push, places_of-emptied, is_member-places_of, rows_in-emptied}
use Rattle.row_slots.proofs.Rows.{rows_in-push}
use Rattle.marks.specs.Keeping.{is_of, is_on, IsKept}
use Rattle.marks.proofs.Finding.{mark_parts}
use Rattle.row_slots.proofs.Passing.{none_pass, all_stay, fewer_pass, one_passes}
use Rattle.marks.proofs.Replaced.{places_of-replaced, rows_in-replaced, length-filter-changed}

-- without a mark that is not there
pub without_none : (person text : ℕ) (rows : List MarkRow) → mark_of person text rows ≡ None →
    without_mark person text rows ≡ rows
without_none person text rows none = all_stay (is_mark person text) rows none

-- with a mark that is not there, and with one that is
pub with_new : (row : MarkRow) (rows : List MarkRow) → mark_of row.person row.text rows ≡ None →
    with_mark row rows ≡ rows ++ row ∷ []
with_new row rows none = rw none refl

pub with_again : (row old : MarkRow) (rows : List MarkRow) → mark_of row.person row.text rows ≡ Some old →
    with_mark row rows ≡ map (λ other. cond (is_mark row.person row.text other) row other) rows
with_again row old rows there = rw there refl

module _ (slots : List (Option MarkRow)) (of_person on_text : ℕ → List ℕ) (kept : IsKept slots of_person on_text)
    (new_of new_on : ℕ → List ℕ) where
  -- ---- a mark is added

  module _ (row : MarkRow) (absent : mark_of row.person row.text (rows_in slots) ≡ None)
      (adds_of : (person : ℕ) →
      new_of person ≡ cond (eqb row.person person) (of_person person ++ length slots ∷ []) (of_person person))
      (adds_on : (text : ℕ) →
      new_on text ≡ cond (eqb row.text text) (on_text text ++ length slots ∷ []) (on_text text)) where
    none_like_it : (person text : ℕ) → is_mark person text row ≡ true →
        length (filter (is_mark person text) (rows_in slots)) ≡ 0
    none_like_it person text is =
        let parts = mark_parts person text row is in
        none_pass (is_mark person text) (rows_in slots)
        (sym (λ i. mark_of (parts.0 i) (parts.1 i) (rows_in slots)) ∙ absent)

    pub IsKept-added : IsKept (slots ++ Some row ∷ []) new_of new_on
    IsKept-added = record {
      listed_of = λ person. adds_of person
          ∙ ap (λ places. cond (eqb row.person person) (places ++ length slots ∷ []) places) (kept.listed_of person)
          ∙ sym (places_of-push (is_of person) slots row);
      listed_on = λ text. adds_on text
          ∙ ap (λ places. cond (eqb row.text text) (places ++ length slots ∷ []) places) (kept.listed_on text)
          ∙ sym (places_of-push (is_on text) slots row);
      once = λ person text. rw (rows_in-push slots row)
          (one_passes (is_mark person text) (rows_in slots) row (kept.once person text) (none_like_it person text));
    }

module _ (slots : List (Option MarkRow)) (of_person on_text : ℕ → List ℕ) (kept : IsKept slots of_person on_text)
    (person text place : ℕ) (old : MarkRow) (there : row_at slots place ≡ Some old)
    (is : is_mark person text old ≡ true) where
  -- ---- a mark is taken out

  pub of_has : is_member nat_eq (of_person person) place ≡ true
  of_has =
      ap (λ places. is_member nat_eq places place) (kept.listed_of person)
      ∙ is_member-places_of (is_of person) place slots old there
      (and_parts (eqb old.person person) (eqb old.text text) is).0

  pub on_has : is_member nat_eq (on_text text) place ≡ true
  on_has =
      ap (λ places. is_member nat_eq places place) (kept.listed_on text)
      ∙ is_member-places_of (is_on text) place slots old there
      (and_parts (eqb old.person person) (eqb old.text text) is).1

  pub rows_left : rows_in (empty_slot place slots) ≡ without_mark person text (rows_in slots)
  rows_left = rows_in-emptied (is_mark person text) place slots old there is (kept.once person text)

  module _ (new_of new_on : ℕ → List ℕ)
      (takes_of : (other : ℕ) →
      new_of other ≡ cond (eqb person other) (remove_key (nat_eq place) (of_person other)) (of_person other))
      (takes_on : (other : ℕ) →
      new_on other ≡ cond (eqb text other) (remove_key (nat_eq place) (on_text other)) (on_text other)) where
    pub IsKept-left : IsKept (empty_slot place slots) new_of new_on
    IsKept-left =
        let parts = mark_parts person text old is in
        let same_person = sym parts.0 in
        let same_text = sym parts.1 in
        record {
          listed_of = λ other. takes_of other
              ∙ (λ i. cond (eqb (same_person i) other) (remove_key (nat_eq place) (kept.listed_of other i))
              (kept.listed_of other i))
              ∙ sym (places_of-emptied (is_of other) place slots old there);
          listed_on = λ other. takes_on other
              ∙ (λ i. cond (eqb (same_text i) other) (remove_key (nat_eq place) (kept.listed_on other i))
              (kept.listed_on other i))
              ∙ sym (places_of-emptied (is_on other) place slots old there);
          once = λ other_person other_text. rw rows_left
              (omega (
                arith,
                kept.once other_person other_text,
                fewer_pass (is_mark other_person other_text) (λ r. not (is_mark person text r)) (rows_in slots),
              ));
        }

-- ---- a mark is changed

module _ (slots : List (Option MarkRow)) (of_person on_text : ℕ → List ℕ) (kept : IsKept slots of_person on_text)
    (row : MarkRow) (place : ℕ) (old : MarkRow) (there : row_at slots place ≡ Some old)
    (is : is_mark row.person row.text old ≡ true) where
  pub rows_changed : rows_in (replace_row place row slots)
      ≡ map (λ other. cond (is_mark row.person row.text other) row other) (rows_in slots)
  rows_changed =
      rows_in-replaced (is_mark row.person row.text) place slots old row there is (kept.once row.person row.text)

  -- one that is changed is of the person, and on the text, that it was
  stays : (person text : ℕ) (other : MarkRow) →
      is_mark person text (cond (is_mark row.person row.text other) row other) ≡ is_mark person text other
  stays person text other =
      elim (is_mark row.person row.text other) as
      (λ b. is_mark row.person row.text other ≡ b →
      is_mark person text (cond b row other) ≡ is_mark person text other) [
        | true ↦ λ like.
            let parts = mark_parts row.person row.text other like in
            λ i. eqb (sym parts.0 i) person && eqb (sym parts.1 i) text
        | false ↦ λ unlike. refl
      ] refl

  pub IsKept-changed : IsKept (replace_row place row slots) of_person on_text
  IsKept-changed =
      let parts = mark_parts row.person row.text old is in
      record {
        listed_of = λ person. kept.listed_of person
            ∙ sym (places_of-replaced (is_of person) place slots old row there
            (ap (λ p. eqb p person) (sym parts.0)));
        listed_on = λ text. kept.listed_on text
            ∙ sym (places_of-replaced (is_on text) place slots old row there (ap (λ t. eqb t text) (sym parts.1)));
        once = λ person text. rw rows_changed
            (omega (
              arith,
              kept.once person text,
              length-filter-changed (is_mark person text)
                  (λ other. cond (is_mark row.person row.text other) row other) (stays person text) (rows_in slots),
            ));
      }
