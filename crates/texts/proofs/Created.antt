-- The numbers of the texts that a person made, as texts are added, taken out and given their numbers.
use Rattle.std.proofs.Common.{◌≡◌, ℕ, ◌<◌, ◌++◌, Bool, true, false, cond, not, ◌&&◌, eqb, ltb, List, [], ◌∷◌, map}
use Rattle.std.proofs.Common.{filter, Some, None, refl, sym, ap, subst, ◌∙◌, inl, inr, arith}
use Rattle.std.proofs.lemmas.Bool.{cases_Bool, cases_eq, and_from, and_right, eq-eqb, eqb-true, ne_eqb, lt-ltb}
use Rattle.kom_types.specs.declared.texts.LocalText.{LocalText}
use Rattle.kom_types.specs.declared.texts.TextRow.{TextRow}
use Rattle.kom_types.specs.tables.Texts.{number_of_text, fresh_text, with_created_local, by_local, rising_locals}
use Rattle.kom_types.specs.tables.Texts.{is_created_by, created_pair, created_by}
use Rattle.row_table.specs.Tables.{row_of, with_row, without_row, changed_row, IsByNumber}
use Rattle.row_table.specs.Tables as table
use Rattle.row_table.proofs.Rows.{changed_row-absent}
use Rattle.local_maps.specs.Pairs.{AllBelow, AllAbove, IsRising, without}
use Rattle.local_maps.proofs.Shown.{filter-filter_comm}
use Rattle.texts.specs.Keeping.{with_next_item}
use Rattle.texts.proofs.Filters.{all_stay, all_stay-none_pass, filter-map}
use Rattle.texts.proofs.Locals.{without_above}
use Rattle.texts.proofs.Rising.{put_all, put_all-above, all-by_local, all-filter, all_of-rising_locals}
use Rattle.texts.proofs.Rising.{filter-rising_locals}

abbrev pub pairs_by : ℕ → List TextRow → List LocalText
pairs_by person rows = map created_pair (filter (is_created_by person) rows)

-- ---- a text is added, with no number yet

filter-with_row : (test : TextRow → Bool) (row : TextRow) (rows : List TextRow) → test row ≡ false →
    row_of number_of_text row.number rows ≡ None →
    filter test (with_row number_of_text row rows) ≡ filter test rows
filter-with_row test row [] fails absent = rw fails refl
filter-with_row test row (first ∷ rows) fails absent = elim (cases_Bool (eqb row.number first.number)) [
  | inl is ↦
      let here : eqb first.number row.number ≡ true = eq-eqb _ _ (sym (eqb-true _ _ is)) in
      let there : Some first ≡ None = rw here at absent in cc
  | inr ne ↦ elim (cases_Bool (ltb row.number first.number)) [
    | inl before ↦ rw (ne, before, fails) refl
    | inr after ↦ elim (cases_Bool (eqb first.number row.number)) [
      | inl here ↦ let there : Some first ≡ None = rw here at absent in cc
      | inr other ↦
          let rest = filter-with_row test row rows fails (rw other at absent) in
          rw (ne, after) (ap (λ l. cond (test first) (first ∷ l) l) rest)
    ]
  ]
]

pub created_by-added : (person number author at : ℕ) (body : List ℕ) (rows : List TextRow) →
    row_of number_of_text number rows ≡ None →
    created_by person (with_row number_of_text (fresh_text number author at body) rows) ≡ created_by person rows
created_by-added person number author at body rows absent =
    ap (λ l. rising_locals (map created_pair l))
    (filter-with_row (is_created_by person) (fresh_text number author at body) rows
    (and_right (eqb author person) false refl) absent)

-- ---- a text is given its number

pub absent_above : (number : ℕ) (rows : List TextRow) → table.AllAbove number_of_text number rows →
    row_of number_of_text number rows ≡ None
absent_above number [] above = refl
absent_above number (row ∷ rows) above =
    let other : eqb row.number number ≡ false = ne_eqb _ _ (λ e. absurd (omega (arith, e, above.0))) in
    rw other (absent_above number rows above.1)

same_row : (first row : TextRow) → Some first ≡ Some row → first ≡ row
same_row first row is = cc

module _ (person local number : ℕ) (row : TextRow) (by : row.author ≡ person) (none : row.created_local ≡ 0)
    (positive : 0 < local) where
  put_all-numbered : (sorted : List LocalText) (rows : List TextRow) →
      row_of number_of_text number rows ≡ Some row → IsByNumber number_of_text rows →
      AllBelow local sorted → AllBelow local (pairs_by person rows) →
      put_all sorted (pairs_by person (changed_row number_of_text number (with_created_local local) rows))
      ≡ put_all sorted (pairs_by person rows) ++ record { local = local; text = number } ∷ []
  put_all-numbered sorted [] found rising below_sorted below = cc
  put_all-numbered sorted (first ∷ rows) found rising below_sorted below = elim (cases_eq first.number number) [
    | inl is ↦
        let here : eqb first.number number ≡ true = eq-eqb _ _ is in
        let same : first ≡ row = same_row first row (rw here at found) in
        let its_author : eqb first.author person ≡ true = eq-eqb _ _ (ap (λ r. r.author) same ∙ by) in
        let unnumbered : ltb 0 first.created_local ≡ false = ap (λ r. ltb 0 r.created_local) same ∙ ap (ltb 0) none in
        let left : is_created_by person first ≡ false = and_right (eqb first.author person) _ unnumbered in
        let counted : ltb 0 local ≡ true = lt-ltb _ _ positive in
        let below : AllBelow local (pairs_by person rows) = rw left at below in
        let stays : changed_row number_of_text number (with_created_local local) rows ≡ rows =
        changed_row-absent number_of_text number (with_created_local local) rows
        (absent_above number rows (subst (λ n. table.AllAbove number_of_text n rows) is rising.0)) in
        rw (here, left)
        (ap (λ b. put_all sorted (map created_pair (cond b
        (with_created_local local first
        ∷ filter (is_created_by person) (changed_row number_of_text number (with_created_local local) rows))
        (filter (is_created_by person) (changed_row number_of_text number (with_created_local local) rows)))))
        (and_from (eqb first.author person) (ltb 0 local) its_author counted)
        ∙ ap (λ l. put_all sorted (record { local = local; text = first.number } ∷ pairs_by person l)) stays
        ∙ ap (λ n. put_all sorted (record { local = local; text = n } ∷ pairs_by person rows)) is
        ∙ put_all-above (record { local = local; text = number }) sorted (pairs_by person rows) below_sorted below)
    | inr ne ↦
        let other : eqb first.number number ≡ false = ne_eqb _ _ ne in
        let found : row_of number_of_text number rows ≡ Some row = rw other at found in
        elim (cases_Bool (is_created_by person first)) [
          | inl is ↦
              let below : AllBelow local (created_pair first ∷ pairs_by person rows) = rw is at below in
              rw (other, is) (put_all-numbered (by_local (created_pair first) sorted) rows found rising.1
              (all-by_local (λ pair. pair.local < local) (created_pair first) sorted below.0 below_sorted) below.1)
          | inr is ↦
              let below : AllBelow local (pairs_by person rows) = rw is at below in
              rw (other, is) (put_all-numbered sorted rows found rising.1 below_sorted below)
        ]
  ]

  pub created_by-numbered : (rows : List TextRow) → row_of number_of_text number rows ≡ Some row →
      IsByNumber number_of_text rows → AllBelow local (created_by person rows) →
      created_by person (changed_row number_of_text number (with_created_local local) rows)
      ≡ created_by person rows ++ record { local = local; text = number } ∷ []
  created_by-numbered rows found rising below =
      put_all-numbered [] rows found rising tt
      (all_of-rising_locals (λ pair. pair.local < local) (pairs_by person rows) below)

  filter-numbered_other : (other : ℕ) (rows : List TextRow) → (other ≡ person → ⊥) →
      row_of number_of_text number rows ≡ Some row → IsByNumber number_of_text rows →
      filter (is_created_by other) (changed_row number_of_text number (with_created_local local) rows)
      ≡ filter (is_created_by other) rows
  filter-numbered_other other [] ne found rising = cc
  filter-numbered_other other (first ∷ rows) ne found rising = elim (cases_eq first.number number) [
    | inl is ↦
        let here : eqb first.number number ≡ true = eq-eqb _ _ is in
        let same : first ≡ row = same_row first row (rw here at found) in
        let of_another : eqb first.author other ≡ false =
        ne_eqb _ _ (λ e. ne (sym e ∙ ap (λ r. r.author) same ∙ by)) in
        let stays : changed_row number_of_text number (with_created_local local) rows ≡ rows =
        changed_row-absent number_of_text number (with_created_local local) rows
        (absent_above number rows (subst (λ n. table.AllAbove number_of_text n rows) is rising.0)) in
        rw (here, of_another) (ap (filter (is_created_by other)) stays)
    | inr apart ↦
        let not_it : eqb first.number number ≡ false = ne_eqb _ _ apart in
        let rest = filter-numbered_other other rows ne (rw not_it at found) rising.1 in
        rw not_it (ap (λ l. cond (is_created_by other first) (first ∷ l) l) rest)
  ]

  pub created_by-numbered_other : (other : ℕ) (rows : List TextRow) → (other ≡ person → ⊥) →
      row_of number_of_text number rows ≡ Some row → IsByNumber number_of_text rows →
      created_by other (changed_row number_of_text number (with_created_local local) rows) ≡ created_by other rows
  created_by-numbered_other other rows ne found rising =
      ap (λ l. rising_locals (map created_pair l)) (filter-numbered_other other rows ne found rising)

-- ---- the next aux-item of a text gets another number

pairs_by-item : (person number next : ℕ) (rows : List TextRow) →
    pairs_by person (changed_row number_of_text number (with_next_item next) rows) ≡ pairs_by person rows
pairs_by-item person number next [] = refl
pairs_by-item person number next (row ∷ rows) =
    let rest = pairs_by-item person number next rows in
    elim (cases_Bool (eqb row.number number)) [
      | inl here ↦ elim (cases_Bool (is_created_by person row)) [
        | inl its ↦ rw (here, its) (ap (λ l. created_pair row ∷ l) rest)
        | inr other ↦ rw (here, other) rest
      ]
      | inr there ↦ elim (cases_Bool (is_created_by person row)) [
        | inl its ↦ rw (there, its) (ap (λ l. created_pair row ∷ l) rest)
        | inr other ↦ rw (there, other) rest
      ]
    ]

pub created_by-item : (person number next : ℕ) (rows : List TextRow) →
    created_by person (changed_row number_of_text number (with_next_item next) rows) ≡ created_by person rows
created_by-item person number next rows = ap rising_locals (pairs_by-item person number next rows)

-- ---- a text is taken out

filter_above : (number : ℕ) (rows : List TextRow) → table.AllAbove number_of_text number rows →
    filter (λ row. eqb row.number number) rows ≡ []
filter_above number [] above = refl
filter_above number (row ∷ rows) above =
    let other : eqb row.number number ≡ false = ne_eqb _ _ (λ e. absurd (omega (arith, e, above.0))) in
    rw other (filter_above number rows above.1)

-- one row has the number
pub filter_number : (number : ℕ) (rows : List TextRow) (row : TextRow) →
    row_of number_of_text number rows ≡ Some row → IsByNumber number_of_text rows →
    filter (λ row. eqb row.number number) rows ≡ row ∷ []
filter_number number [] row found rising = cc
filter_number number (first ∷ rows) row found rising = elim (cases_eq first.number number) [
  | inl is ↦
      let here : eqb first.number number ≡ true = eq-eqb _ _ is in
      let same : first ≡ row = same_row first row (rw here at found) in
      let none = filter_above number rows (subst (λ n. table.AllAbove number_of_text n rows) is rising.0) in
      rw here (ap (λ l. first ∷ l) none ∙ ap (λ r. r ∷ []) same)
  | inr ne ↦
      let other : eqb first.number number ≡ false = ne_eqb _ _ ne in
      rw other (filter_number number rows row (rw other at found) rising.1)
]

created_by-without : (person number : ℕ) (rows : List TextRow) →
    created_by person (without_row number_of_text number rows)
    ≡ filter (λ pair. not (eqb pair.text number)) (created_by person rows)
created_by-without person number rows =
    let of_another : LocalText → Bool = λ pair. not (eqb pair.text number) in
    ap (λ l. rising_locals (map created_pair l))
    (filter-filter_comm (is_created_by person) (λ row. not (eqb row.number number)) rows)
    ∙ ap rising_locals (sym (filter-map of_another created_pair (filter (is_created_by person) rows)))
    ∙ sym (filter-rising_locals of_another (pairs_by person rows))

-- the pairs of a text are those that its row gives
created_of : (person number : ℕ) (rows : List TextRow) (row : TextRow) →
    row_of number_of_text number rows ≡ Some row → IsByNumber number_of_text rows →
    filter (λ pair. eqb pair.text number) (created_by person rows) ≡ pairs_by person (row ∷ [])
created_of person number rows row found rising =
    let of_it : LocalText → Bool = λ pair. eqb pair.text number in
    filter-rising_locals of_it (pairs_by person rows)
    ∙ ap rising_locals (filter-map of_it created_pair (filter (is_created_by person) rows))
    ∙ ap (λ l. rising_locals (map created_pair l))
    (filter-filter_comm (λ row. eqb row.number number) (is_created_by person) rows)
    ∙ ap (λ l. rising_locals (pairs_by person l)) (filter_number number rows row found rising)
    ∙ elim (cases_Bool (is_created_by person row)) [
      | inl is ↦ rw is refl
      | inr is ↦ rw is refl
    ]

one_left : (local number : ℕ) (only : LocalText) (pairs : List LocalText) → only.local ≡ local → IsRising pairs →
    filter (λ pair. eqb pair.text number) pairs ≡ only ∷ [] →
    filter (λ pair. not (eqb pair.text number)) pairs ≡ without local pairs
one_left local number only [] is rising one = cc
one_left local number only (first ∷ pairs) is rising one = elim (cases_Bool (eqb first.text number)) [
  | inl here ↦
      let one : first ∷ filter (λ pair. eqb pair.text number) pairs ≡ only ∷ [] = rw here at one in
      let same : first ≡ only = cc in
      let none : filter (λ pair. eqb pair.text number) pairs ≡ [] = cc in
      let at : first.local ≡ local = ap (λ pair. pair.local) same ∙ is in
      let gone : eqb first.local local ≡ true = eq-eqb _ _ at in
      let others = without_above local pairs (subst (λ l. AllAbove l pairs) at rising.0) in
      rw (here, gone) (all_stay-none_pass (λ pair. eqb pair.text number) pairs none ∙ sym others)
  | inr other ↦
      let one : filter (λ pair. eqb pair.text number) pairs ≡ only ∷ [] = rw other at one in
      let above : AllAbove first.local (only ∷ []) =
      subst (AllAbove first.local) one
      (all-filter (λ pair. first.local < pair.local) (λ pair. eqb pair.text number) pairs rising.0) in
      let stays : eqb first.local local ≡ false = ne_eqb _ _ (λ e. absurd (omega (arith, e, is, above.0))) in
      rw (other, stays) (ap (λ l. first ∷ l) (one_left local number only pairs is rising.1 one))
]

-- the number of a text goes with it
pub created_by-left : (number : ℕ) (rows : List TextRow) (row : TextRow) →
    row_of number_of_text number rows ≡ Some row → IsByNumber number_of_text rows → 0 < row.created_local →
    IsRising (created_by row.author rows) →
    created_by row.author (without_row number_of_text number rows)
    ≡ without row.created_local (created_by row.author rows)
created_by-left number rows row found rising numbered up =
    let counted : is_created_by row.author row ≡ true =
    and_from (eqb row.author row.author) (ltb 0 row.created_local) (eq-eqb _ _ refl) (lt-ltb _ _ numbered) in
    created_by-without row.author number rows
    ∙ one_left row.created_local number (created_pair row) (created_by row.author rows) refl up
    (created_of row.author number rows row found rising
    ∙ ap (λ b. map created_pair (cond b (row ∷ []) [])) counted)

-- a text that is not among those that a person made goes
pub created_by-left_other : (person number : ℕ) (rows : List TextRow) (row : TextRow) →
    row_of number_of_text number rows ≡ Some row → IsByNumber number_of_text rows →
    is_created_by person row ≡ false →
    created_by person (without_row number_of_text number rows) ≡ created_by person rows
created_by-left_other person number rows row found rising not_its =
    created_by-without person number rows
    ∙ all_stay-none_pass (λ pair. eqb pair.text number) (created_by person rows)
    (created_of person number rows row found rising
    ∙ ap (λ b. map created_pair (cond b (row ∷ []) [])) not_its)

-- no text goes
pub without_row-absent : (number : ℕ) (rows : List TextRow) → row_of number_of_text number rows ≡ None →
    without_row number_of_text number rows ≡ rows
without_row-absent number rows none = all_stay (λ row. eqb row.number number) rows none

-- ---- the number of a text is taken away

-- a text without a number is as little among those that a person made as one that is gone
filter-forgotten : (person number : ℕ) (rows : List TextRow) →
    filter (is_created_by person) (changed_row number_of_text number (with_created_local 0) rows)
    ≡ filter (is_created_by person) (without_row number_of_text number rows)
filter-forgotten person number [] = refl
filter-forgotten person number (row ∷ rows) =
    let rest = filter-forgotten person number rows in
    elim (cases_Bool (eqb row.number number)) [
      | inl here ↦
          let none : (eqb row.author person && ltb 0 0) ≡ false = and_right (eqb row.author person) false refl in
          rw (here, none) rest
      | inr other ↦ rw other (ap (λ l. cond (is_created_by person row) (row ∷ l) l) rest)
    ]

pub created_by-forgotten : (person number : ℕ) (rows : List TextRow) →
    created_by person (changed_row number_of_text number (with_created_local 0) rows)
    ≡ created_by person (without_row number_of_text number rows)
created_by-forgotten person number rows =
    ap (λ l. rising_locals (map created_pair l)) (filter-forgotten person number rows)
