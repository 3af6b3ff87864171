-- Persons and texts that are added, changed and taken away stay whole.
use Rattle.std.proofs.Common.{◌≡◌, ℕ, ◌+◌, ◌<◌, ◌≤◌, Bool, true, false, cond, not, ◌==◌, ◌&&◌, List, [], ◌∷◌, length}
use Rattle.std.proofs.Common.{refl, sym, ◌∙◌, arith, inl, inr, eqb-true, true≢false}
use Rattle.std.specs.Prelude.{map}
use Rattle.std.specs.List.{AllByRecursion, filter}
use Rattle.std.proofs.lemmas.Bool.{cases_Bool, and_parts, and_right, ne_eqb}
use Rattle.kom_types.specs.declared.limits.TheConstants.{LAST_DRAWN, LONGEST_BODY}
use Rattle.row_table.specs.Tables.{with_row, without_row, changed_row, IsByNumber}
use Rattle.row_table.proofs.Rows.{IsByNumber-with_row, IsByNumber-without_row, IsByNumber-changed_row}
use Rattle.kom_types.specs.declared.conferences.ConferenceRow.{ConferenceRow}
use Rattle.kom_types.specs.declared.persons.PersonRow.{PersonRow}
use Rattle.kom_types.specs.declared.texts.TextRow.{TextRow}
use Rattle.kom_types.specs.tables.Persons.{number_of_person}
use Rattle.kom_types.specs.tables.Texts.{number_of_text, with_created_local}
use Rattle.kom_model.specs.Effects.{without_number}
use Rattle.kom_model.specs.Whole.{ArePersons, AreTexts, IsNumbered, has_letterbox, has_drawn_created, is_created}
use Rattle.kom_model.proofs.whole.Counts.{all-along, all-weaker, all-kept, all-mapped, all-picked, all-with_row}
use Rattle.kom_model.proofs.whole.Counts.{rising-mapped, count-kept, count-mapped, count-with_row, count-none}

-- ---- persons
module _ (rows : List PersonRow) (conferences : List ConferenceRow) (whole : ArePersons rows conferences) where
  pub persons-more : (given : PersonRow) → has_letterbox conferences given.number ≡ true →
      ArePersons (with_row number_of_person given rows) conferences
  persons-more given box = record {
    rising = IsByNumber-with_row number_of_person given rows whole.rising;
    housed = all-with_row number_of_person (λ row. has_letterbox conferences row.number ≡ true) given rows box
        whole.housed;
  }

  pub persons-fewer : (gone : ℕ) → ArePersons (without_row number_of_person gone rows) conferences
  persons-fewer gone = record {
    rising = IsByNumber-without_row number_of_person gone rows whole.rising;
    housed = all-kept _ (λ row. not (row.number == gone)) rows whole.housed;
  }

  pub persons-same : (at : ℕ) (change : PersonRow → PersonRow) →
      ((row : PersonRow) → (change row).number ≡ row.number) →
      ArePersons (changed_row number_of_person at change rows) conferences
  persons-same at change numbers = record {
    rising = IsByNumber-changed_row number_of_person change numbers at rows whole.rising;
    housed = all-picked (λ row. has_letterbox conferences row.number ≡ true)
        (λ row. has_letterbox conferences row.number ≡ true) (λ row. row.number == at) change
        (λ row is here. rw (numbers row) here) (λ row here. here) rows whole.housed;
  }

-- ---- texts
module _ (rows : List TextRow) (next : ℕ) (persons : List PersonRow) (whole : AreTexts rows next persons) where
  -- a text of a new number
  pub texts-more : (given : TextRow) → next ≤ given.number → given.number ≤ LAST_DRAWN →
      length given.body ≤ LONGEST_BODY → given.created_local ≡ 0 →
      AreTexts (with_row number_of_text given rows) (given.number + 1) persons
  texts-more given new last short none = record {
    rising = IsByNumber-with_row number_of_text given rows whole.rising;
    drawn = all-with_row number_of_text (λ row. row.number < given.number + 1) given rows (omega arith)
        (all-weaker (λ row. row.number < next) (λ row. row.number < given.number + 1)
        (λ row less. omega (arith, less, new)) rows whole.drawn);
    limited = omega arith;
    short = all-with_row number_of_text (λ row. length row.body ≤ LONGEST_BODY) given rows short whole.short;
    numbered = all-with_row number_of_text (IsNumbered persons) given rows
        (λ some. absurd (omega (arith, some, none))) whole.numbered;
    created_once = λ person local some.
        let once = whole.created_once person local some in
        let fails : is_created person local given ≡ false = and_right _ _
        (ne_eqb given.created_local local (λ same. omega (arith, same, none, some))) in
        let less = count-with_row number_of_text (is_created person local) given fails rows in
        omega (arith, once, less);
  }

  pub texts-fewer : (gone : ℕ) → AreTexts (without_row number_of_text gone rows) next persons
  texts-fewer gone = record {
    rising = IsByNumber-without_row number_of_text gone rows whole.rising;
    drawn = all-kept _ (λ row. not (row.number == gone)) rows whole.drawn;
    limited = whole.limited;
    short = all-kept _ (λ row. not (row.number == gone)) rows whole.short;
    numbered = all-kept (IsNumbered persons) (λ row. not (row.number == gone)) rows whole.numbered;
    created_once = λ person local some.
        let once = whole.created_once person local some in
        let less = count-kept (is_created person local) (λ row. not (row.number == gone)) rows in
        omega (arith, once, less);
  }

  -- a change of the number of aux-items alone
  pub texts-item : (at : ℕ) (change : TextRow → TextRow) → ((row : TextRow) → (change row).number ≡ row.number) →
      ((row : TextRow) → (change row).body ≡ row.body) → ((row : TextRow) → (change row).author ≡ row.author) →
      ((row : TextRow) → (change row).created_local ≡ row.created_local) →
      AreTexts (changed_row number_of_text at change rows) next persons
  texts-item at change numbers bodies authors locals = record {
    rising = IsByNumber-changed_row number_of_text change numbers at rows whole.rising;
    drawn = all-picked (λ row. row.number < next) (λ row. row.number < next) (λ row. row.number == at) change
        (λ row is less. omega (arith, less, numbers row)) (λ row less. less) rows whole.drawn;
    limited = whole.limited;
    short = all-picked (λ row. length row.body ≤ LONGEST_BODY) (λ row. length row.body ≤ LONGEST_BODY)
        (λ row. row.number == at) change (λ row is less. rw (bodies row) less) (λ row less. less) rows whole.short;
    numbered = all-picked (IsNumbered persons) (IsNumbered persons) (λ row. row.number == at) change
        (λ row is here. rw (locals row, authors row) here) (λ row here. here) rows whole.numbered;
    created_once = λ person local some.
        let once = whole.created_once person local some in
        let less = count-mapped (is_created person local) (is_created person local)
        (λ row. cond (row.number == at) (change row) row) (still person local) rows in
        omega (arith, once, less);
  } where
    still : (person local : ℕ) (row : TextRow) →
        is_created person local (cond (row.number == at) (change row) row) ≡ true → is_created person local row ≡ true
    still person local row is = elim (cases_Bool (row.number == at)) [
      | inl here ↦
          let changed : is_created person local (change row) ≡ true = rw here at is in
          rw (locals row, authors row) at changed
      | inr there ↦ rw there at is
    ]

-- the texts of a person that goes have no numbers any more, and those of others stay as they are
module _ (rows : List TextRow) (next : ℕ) (persons : List PersonRow) (whole : AreTexts rows next persons)
    (gone : ℕ) (left : List PersonRow)
    (stay : (local number : ℕ) → not (number == gone) ≡ true → has_drawn_created persons number local ≡ true →
    has_drawn_created left number local ≡ true) where
  left-number : (row : TextRow) → (without_number gone row).number ≡ row.number
  left-number row = elim (cases_Bool (row.author == gone)) [
    | inl here ↦ rw here refl
    | inr there ↦ rw there refl
  ]

  left-body : (row : TextRow) → (without_number gone row).body ≡ row.body
  left-body row = elim (cases_Bool (row.author == gone)) [
    | inl here ↦ rw here refl
    | inr there ↦ rw there refl
  ]

  left-numbered : (row : TextRow) → IsNumbered persons row → IsNumbered left (without_number gone row)
  left-numbered row numbered = elim (cases_Bool (row.author == gone)) [
    | inl here ↦ rw here (λ some. absurd (omega (arith, some)))
    | inr there ↦ rw there (λ some. stay row.created_local row.author (not_apart (row.author == gone) there)
        (numbered some))
  ] where
    not_apart : (same : Bool) → same ≡ false → not same ≡ true
    not_apart same is = rw is refl

  left-created : (person local : ℕ) → 0 < local → (row : TextRow) →
      is_created person local (without_number gone row) ≡ true → is_created person local row ≡ true
  left-created person local some row is = elim (cases_Bool (row.author == gone)) [
    | inl here ↦
        let none : ((row.author == person) && (0 == local)) ≡ true = rw here at is in
        let zero : 0 ≡ local = eqb-true 0 local (and_parts (row.author == person) (0 == local) none).1 in
        absurd (omega (arith, some, zero))
    | inr there ↦ rw there at is
  ]

  pub texts-left : AreTexts (map (without_number gone) rows) next left
  texts-left = record {
    rising = rising-mapped number_of_text (without_number gone) left-number rows whole.rising;
    drawn = all-mapped (λ row. row.number < next) (λ row. row.number < next) (without_number gone)
        (λ row less. omega (arith, less, left-number row)) rows whole.drawn;
    limited = whole.limited;
    short = all-mapped (λ row. length row.body ≤ LONGEST_BODY) (λ row. length row.body ≤ LONGEST_BODY)
        (without_number gone) (λ row less. rw (left-body row) less) rows whole.short;
    numbered = all-mapped (IsNumbered persons) (IsNumbered left) (without_number gone) left-numbered rows
        whole.numbered;
    created_once = λ person local some.
        let once = whole.created_once person local some in
        let less = count-mapped (is_created person local) (is_created person local) (without_number gone)
        (left-created person local some) rows in
        omega (arith, once, less);
  }

-- ---- a text gets its number among those of its author
-- one row at most has a number
number-once : (number : ℕ) (rows : List TextRow) → IsByNumber number_of_text rows →
    length (filter (λ row. row.number == number) rows) ≤ 1
number-once number [] rising = omega arith
number-once number (row ∷ rows) rising = elim (cases_Bool (row.number == number)) [
  | inl here ↦
      let same : row.number ≡ number = eqb-true _ _ here in
      let none = count-none (λ (other : TextRow). other.number == number) rows
      (all-weaker (λ other. row.number < other.number) (λ other. (other.number == number) ≡ false)
      (λ other less. ne_eqb other.number number (λ is. omega (arith, less, same, is))) rows rising.0) in
      rw here (omega (arith, none))
  | inr there ↦ rw there (number-once number rows rising.1)
]

-- what passes after a change at one number passed before, or has the number
count-either : {X : Type 0} (test test' at : X → Bool) (change : X → X) (rows : List X) →
    ((row : X) → at row ≡ false → test' row ≡ true → test row ≡ true) →
    length (filter test' (map (λ row. cond (at row) (change row) row) rows))
    ≤ length (filter test rows) + length (filter at rows)
count-either test test' at change [] passed = omega arith
count-either test test' at change (row ∷ rows) passed =
    let rest : length (filter test' (map (λ row. cond (at row) (change row) row) rows))
    ≤ length (filter test rows) + length (filter at rows) = count-either test test' at change rows passed in
    elim (cases_Bool (at row)) [
      | inl here ↦ elim (cases_Bool (test' (change row))) [
        | inl passes ↦ elim (cases_Bool (test row)) [
          | inl before ↦ rw here (rw (passes, before) (omega arith))
          | inr fails ↦ rw here (rw (passes, fails) (omega arith))
        ]
        | inr fails ↦ elim (cases_Bool (test row)) [
          | inl before ↦ rw here (rw (fails, before) (omega arith))
          | inr fails' ↦ rw here (rw (fails, fails') (omega arith))
        ]
      ]
      | inr there ↦ elim (cases_Bool (test' row)) [
        | inl passes ↦ rw there (rw (passes, passed row there passes) (omega arith))
        | inr fails ↦ elim (cases_Bool (test row)) [
          | inl before ↦ rw there (rw (fails, before) (omega arith))
          | inr fails' ↦ rw there (rw (fails, fails') rest)
        ]
      ]
    ]

module _ (rows : List TextRow) (next : ℕ) (persons : List PersonRow) (whole : AreTexts rows next persons)
    (person local text : ℕ) where
  abbrev numbered_row : TextRow → TextRow
  numbered_row row = cond (row.number == text) (with_created_local local row) row

  -- the number is new among those of the author
  pub texts-created : has_drawn_created persons person local ≡ true →
      AllByRecursion (λ row. (row.number == text) ≡ true → row.author ≡ person) rows →
      (0 < local → AllByRecursion (λ row. is_created person local row ≡ false) rows) →
      AreTexts (changed_row number_of_text text (with_created_local local) rows) next persons
  texts-created drawn author new = record {
    rising = IsByNumber-changed_row number_of_text (with_created_local local) (λ row. refl) text rows whole.rising;
    drawn = all-picked (λ row. row.number < next) (λ row. row.number < next) (λ row. row.number == text)
        (with_created_local local) (λ row is less. less) (λ row less. less) rows whole.drawn;
    limited = whole.limited;
    short = all-picked (λ row. length row.body ≤ LONGEST_BODY) (λ row. length row.body ≤ LONGEST_BODY)
        (λ row. row.number == text) (with_created_local local) (λ row is less. less) (λ row less. less) rows
        whole.short;
    numbered = all-mapped (λ row. IsNumbered persons row × ((row.number == text) ≡ true → row.author ≡ person))
        (IsNumbered persons) numbered_row numbered rows
        (all-along (IsNumbered persons) (λ row. (row.number == text) ≡ true → row.author ≡ person)
        (λ row. IsNumbered persons row × ((row.number == text) ≡ true → row.author ≡ person))
        (λ row one other. (one, other)) rows whole.numbered author);
    created_once = once;
  } where
    numbered : (row : TextRow) → IsNumbered persons row × ((row.number == text) ≡ true → row.author ≡ person) →
        IsNumbered persons (numbered_row row)
    numbered row both = elim (cases_Bool (row.number == text)) [
      | inl here ↦ rw here (λ some. rw (both.1 here) drawn)
      | inr there ↦ rw there both.0
    ]

    -- of another author, or another number, what passes passed before
    before : (person' local' : ℕ) → ((person == person') && (local == local')) ≡ false → (row : TextRow) →
        ((row.number == text) ≡ true → row.author ≡ person) →
        is_created person' local' (numbered_row row) ≡ true → is_created person' local' row ≡ true
    before person' local' apart row author is = elim (cases_Bool (row.number == text)) [
      | inl here ↦
          let changed : ((row.author == person') && (local == local')) ≡ true = rw here at is in
          let same : ((person == person') && (local == local')) ≡ true = rw (author here) at changed in
          absurd (true≢false (sym same ∙ apart))
      | inr there ↦ rw there at is
    ]

    counted : (person' local' : ℕ) → ((person == person') && (local == local')) ≡ false → (some : List TextRow) →
        AllByRecursion (λ row. (row.number == text) ≡ true → row.author ≡ person) some →
        length (filter (is_created person' local') (map numbered_row some))
        ≤ length (filter (is_created person' local') some)
    counted person' local' apart [] all = omega arith
    counted person' local' apart (row ∷ some) all =
        let rest : length (filter (is_created person' local') (map numbered_row some))
        ≤ length (filter (is_created person' local') some) = counted person' local' apart some all.1 in
        elim (cases_Bool (is_created person' local' (numbered_row row))) [
          | inl passes ↦ rw (passes, before person' local' apart row all.0 passes) (omega arith)
          | inr fails ↦ elim (cases_Bool (is_created person' local' row)) [
            | inl here ↦ rw (fails, here) (omega arith)
            | inr there ↦ rw (fails, there) rest
          ]
        ]

    once : (person' local' : ℕ) → 0 < local' →
        length (filter (is_created person' local') (changed_row number_of_text text
        (with_created_local local) rows)) ≤ 1
    once person' local' some = elim (cases_Bool ((person == person') && (local == local'))) [
      | inl same ↦
          let parts = and_parts (person == person') (local == local') same in
          let none : length (filter (is_created person local) rows) ≡ 0 =
          count-none (is_created person local) rows
          (let same = eqb-true local local' parts.1 in new (omega (arith, same, some))) in
          let one = number-once text rows whole.rising in
          rw (← eqb-true person person' parts.0, ← eqb-true local local' parts.1)
          (let all = count-either (is_created person local) (is_created person local) (λ row. row.number == text)
          (with_created_local local) rows (λ row there passes. passes) in
          omega (arith, none, one, all))
      | inr apart ↦
          let less = counted person' local' apart rows author in let was = whole.created_once person' local' some in
          omega (arith, less, was)
    ]
