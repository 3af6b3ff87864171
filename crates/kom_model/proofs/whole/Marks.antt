-- Marks that are set, or taken away, stay whole.
use Rattle.std.proofs.Common.{◌≡◌, ℕ, ◌+◌, ◌<◌, true, false, cond, not, ◌==◌, ◌||◌, List, [], ◌∷◌, ◌++◌}
use Rattle.std.proofs.Common.{length, Option, Some, None, refl, sym, ◌∙◌, arith, inl, inr, subst, nat_lt, eqb-true}
use Rattle.std.specs.Prelude.{map, is_some, is_none}
use Rattle.std.specs.List.{filter}
use Rattle.std.proofs.lemmas.Bool.{cases_Bool, and_parts, ltb-true}
use Rattle.kom_types.specs.declared.limits.TheConstants.{MOST_MARKS}
use Rattle.kom_types.specs.declared.persons.PersonRow.{PersonRow}
use Rattle.kom_types.specs.declared.texts.MarkRow.{MarkRow}
use Rattle.kom_types.specs.declared.texts.TextRow.{TextRow}
use Rattle.kom_types.specs.tables.Texts.{is_mark, mark_of, marks_of, by_text, with_mark, without_mark}
use Rattle.kom_model.specs.Whole.{AreMarks, has_person, has_text}
use Rattle.kom_model.proofs.whole.Counts.{none-found, count-none, count-placed}
use Rattle.kom_model.proofs.whole.Pairs.{ArePairs, is_pair, is_of, all-keyed, all-unkeyed, filter-keyed, count-keyed}
use Rattle.kom_model.proofs.whole.Pairs.{keyed-more, keyed-mapped, pairs-kept, pairs-more}

-- of whom, and on what, a mark is
abbrev mark_key : MarkRow → ℕ × ℕ
mark_key row = (row.person, row.text)

keys-replaced : (given : MarkRow) (rows : List MarkRow) →
    map mark_key (map (λ row. cond (is_mark given.person given.text row) given row) rows) ≡ map mark_key rows
keys-replaced given rows = keyed-mapped mark_key
    (λ row. cond (is_mark given.person given.text row) given row) here rows where
      here : (row : MarkRow) → mark_key (cond (is_mark given.person given.text row) given row) ≡ mark_key row
      here row = elim (cases_Bool (is_mark given.person given.text row)) [
        | inl is ↦
            let parts = and_parts (row.person == given.person) (row.text == given.text) is in
            let one : row.person ≡ given.person = eqb-true _ _ parts.0 in
            let other : row.text ≡ given.text = eqb-true _ _ parts.1 in
            rw is (λ i. (sym one i, sym other i))
        | inr apart ↦ rw apart refl
      ]

-- a person's marks by their texts are as many as they are
placed-more : (row : MarkRow) (rows : List MarkRow) → length (by_text row rows) ≡ length rows + 1
placed-more row [] = refl
placed-more row (first ∷ rows) =
    let rest : length (by_text row rows) ≡ length rows + 1 = placed-more row rows in
    elim (cases_Bool (nat_lt row.text first.text)) [
      | inl before ↦ rw before (omega arith)
      | inr after ↦ rw after (omega arith)
    ]

pub count-marks : (person : ℕ) (rows : List MarkRow) →
    length (marks_of person rows) ≡ length (filter (λ row. row.person == person) rows)
count-marks person rows =
    let all = count-placed by_text placed-more (filter (λ row. row.person == person) rows) [] in
    omega (arith, all)

module _ (persons : List PersonRow) (texts : List TextRow) where
  abbrev Pairs : List (ℕ × ℕ) → Type 0
  Pairs keys = ArePairs keys (has_person persons) (has_text texts) MOST_MARKS

  pairs-of : (rows : List MarkRow) → AreMarks rows persons texts → Pairs (map mark_key rows)
  pairs-of rows whole = record {
    first_there = all-keyed mark_key (λ key. has_person persons key.0 ≡ true) rows whole.person_there;
    second_there = all-keyed mark_key (λ key. has_text texts key.1 ≡ true) rows whole.text_there;
    once = λ person text.
        let once = whole.once person text in let same = count-keyed mark_key (is_pair person text) rows in
        omega (arith, once, same);
    limited = λ person.
        let limited = whole.limited person in let same = count-keyed mark_key (is_of person) rows in
        omega (arith, limited, same);
  }

  of-pairs : (rows : List MarkRow) → Pairs (map mark_key rows) → AreMarks rows persons texts
  of-pairs rows pairs = record {
    person_there = all-unkeyed mark_key (λ key. has_person persons key.0 ≡ true) rows pairs.first_there;
    text_there = all-unkeyed mark_key (λ key. has_text texts key.1 ≡ true) rows pairs.second_there;
    once = λ person text.
        let once = pairs.once person text in let same = count-keyed mark_key (is_pair person text) rows in
        omega (arith, once, same);
    limited = λ person.
        let limited = pairs.limited person in let same = count-keyed mark_key (is_of person) rows in
        omega (arith, limited, same);
  }

  module _ (rows : List MarkRow) (whole : AreMarks rows persons texts) where
    pub marks-gone : (person text : ℕ) → AreMarks (without_mark person text rows) persons texts
    marks-gone person text = of-pairs (without_mark person text rows)
        (subst Pairs (filter-keyed mark_key (λ key. not (is_pair person text key)) rows)
        (pairs-kept (has_person persons) (has_text texts) MOST_MARKS (λ key. not (is_pair person text key))
        (map mark_key rows) (pairs-of rows whole)))

    absent-mark : (found : Option MarkRow) → is_some found ≡ false → is_none found ≡ true
    absent-mark None is = refl
    absent-mark (Some row) is = sym is

    pub marks-set : (given : MarkRow) → has_person persons given.person ≡ true → has_text texts given.text ≡ true →
        (is_some (mark_of given.person given.text rows)
        || nat_lt (length (marks_of given.person rows)) MOST_MARKS) ≡ true →
        AreMarks (with_mark given rows) persons texts
    marks-set given person text room = elim (cases_Bool (is_some (mark_of given.person given.text rows))) [
      | inl there ↦ rw there (of-pairs _ (subst Pairs (sym (keys-replaced given rows)) (pairs-of rows whole)))
      | inr apart ↦
          let few : nat_lt (length (marks_of given.person rows)) MOST_MARKS ≡ true = rw apart at room in
          let free : length (filter (is_of given.person) (map mark_key rows)) < MOST_MARKS =
          let less = ltb-true _ _ few in let same = count-marks given.person rows in
          let keyed = count-keyed mark_key (is_of given.person) rows in
          omega (arith, less, same, keyed) in
          let none : length (filter (is_pair given.person given.text) (map mark_key rows)) ≡ 0 =
          count-keyed mark_key (is_pair given.person given.text) rows
          ∙ count-none (is_mark given.person given.text) rows (none-found (is_mark given.person given.text) rows
          (absent-mark (mark_of given.person given.text rows) apart)) in
          rw apart (of-pairs (rows ++ given ∷ []) (subst Pairs (sym (keyed-more mark_key rows given))
          (pairs-more (has_person persons) (has_text texts) MOST_MARKS given.person given.text (map mark_key rows)
          person text none free (pairs-of rows whole))))
    ]
