-- A text that had a number among those that its author made has it no more.
use Rattle.std.proofs.Common.{◌≡◌, ℕ, ◌<◌, ◌≤◌, Bool, true, false, cond, not, eqb, ltb, List, [], ◌∷◌}
use Rattle.std.proofs.Common.{length, map, filter, Option, Some, None, refl, sym, ap, subst, ◌∙◌, inl, inr, arith}
use Rattle.std.specs.List.{AllByRecursion}
use Rattle.std.proofs.lemmas.Bool.{cases_Bool, cases_eq, and_parts, eq-eqb, eqb-true, ne_eqb}
use Rattle.std.proofs.lemmas.Bool.{ltb-true, ltb-false}
use Rattle.std.proofs.lemmas.Option.{same_Some, none-some}
use Rattle.kom_types.specs.declared.texts.LocalText.{LocalText}
use Rattle.kom_types.specs.declared.texts.Recipient.{Recipient}
use Rattle.kom_types.specs.declared.texts.TextRow.{TextRow}
use Rattle.kom_types.specs.tables.Texts.{number_of_text, with_created_local, is_created_by, created_pair, created_by}
use Rattle.kom_types.specs.tables.Texts.{rising_locals}
use Rattle.row_table.specs.Tables.{row_of, without_row, changed_row, IsByNumber}
use Rattle.row_table.specs.Tables as table
use Rattle.row_table.proofs.Rows.{changed_row-absent}
use Rattle.local_maps.specs.Maps.{Owned, pairs_of, HasOnlyChanged}
use Rattle.local_maps.specs.Pairs.{least_of, text_of, without}
use Rattle.local_maps.proofs.Shown.{filter-filter_comm}
use Rattle.texts.specs.Keeping.{IsKept}
use Rattle.texts.proofs.Created.{absent_above, filter_number, pairs_by, created_by-left, created_by-forgotten}
use Rattle.texts.proofs.Filters.{filter-map}
use Rattle.texts.proofs.Keeping.{kept-forgotten_row}
use Rattle.texts.proofs.Rising.{all_of-rising_locals, filter-rising_locals}

-- a text of this author without its number
abbrev pub forgotten : ℕ → TextRow → TextRow
forgotten person row = cond (eqb row.author person) (with_created_local 0 row) row

-- ---- the text of a number among those that a person made

-- what holds of the pairs of a text holds of the one that a local number finds
told : (P : LocalText → Type 0) (local number : ℕ) (pairs : List LocalText) → text_of local pairs ≡ Some number →
    AllByRecursion P (filter (λ pair. eqb pair.text number) pairs) → P (record { local = local; text = number })
told P local number [] found all = absurd (none-some number found)
told P local number (pair ∷ pairs) found all = elim (cases_Bool (eqb pair.local local)) [
  | inl here ↦
      let its_text : pair.text ≡ number = same_Some _ _ (rw here at found) in
      let its_local : pair.local ≡ local = eqb-true _ _ here in
      let passes : eqb pair.text number ≡ true = eq-eqb _ _ its_text in
      let all : AllByRecursion P (pair ∷ filter (λ pair. eqb pair.text number) pairs) = rw passes at all in
      subst P {x = pair} (λ i. record { local = its_local i; text = its_text i }) all.0
  | inr other ↦
      let found : text_of local pairs ≡ Some number = rw other at found in
      elim (cases_Bool (eqb pair.text number)) [
        | inl passes ↦
            let all : AllByRecursion P (pair ∷ filter (λ pair. eqb pair.text number) pairs) = rw passes at all in
            told P local number pairs found all.1
        | inr fails ↦ told P local number pairs found (rw fails at all)
      ]
]

-- the pairs of a text, by its rows
pairs_of_text : (person number : ℕ) (rows : List TextRow) →
    filter (λ pair. eqb pair.text number) (created_by person rows)
    ≡ rising_locals (pairs_by person (filter (λ row. eqb row.number number) rows))
pairs_of_text person number rows =
    let of_it : LocalText → Bool = λ pair. eqb pair.text number in
    filter-rising_locals of_it (pairs_by person rows)
    ∙ ap rising_locals (filter-map of_it created_pair (filter (is_created_by person) rows))
    ∙ ap (λ l. rising_locals (map created_pair l))
    (filter-filter_comm (λ row. eqb row.number number) (is_created_by person) rows)

filter_absent : (number : ℕ) (rows : List TextRow) → row_of number_of_text number rows ≡ None →
    filter (λ row. eqb row.number number) rows ≡ []
filter_absent number [] absent = refl
filter_absent number (row ∷ rows) absent = elim (cases_Bool (eqb row.number number)) [
  | inl here ↦ absurd (none-some row (sym (rw here at absent)))
  | inr other ↦ rw other (filter_absent number rows (rw other at absent))
]

-- a text that has the number of a person's
pub record HasNumber (person local number : ℕ) (rows : List TextRow) : Type 0 where
  pub row : TextRow
  pub found : row_of number_of_text number rows ≡ Some row
  pub author : row.author ≡ person
  pub its_local : row.created_local ≡ local
  pub positive : 0 < row.created_local

module _ (person local number : ℕ) (rows : List TextRow) (by_number : IsByNumber number_of_text rows)
    (at : text_of local (created_by person rows) ≡ Some number) where
  pub has_number : HasNumber person local number rows
  has_number = by (row_of number_of_text number rows) refl
    where
      given : (P : LocalText → Type 0) (those : List TextRow) →
          filter (λ row. eqb row.number number) rows ≡ those →
          AllByRecursion P (rising_locals (pairs_by person those)) → P (record { local = local; text = number })
      given P those are all =
          told P local number (created_by person rows) at
          (subst (AllByRecursion P) (sym (pairs_of_text person number rows
          ∙ ap (λ l. rising_locals (pairs_by person l)) are)) all)

      by : (found : Option TextRow) → row_of number_of_text number rows ≡ found →
          HasNumber person local number rows
      by None is = absurd (given (λ _. ⊥) [] (filter_absent number rows is) tt)
      by (Some row) is =
          let only = filter_number number rows row is by_number in
          elim (cases_Bool (is_created_by person row)) [
            | inl its ↦
                let same : ◌≡◌ {A = LocalText} (record { local = local; text = number }) (created_pair row) =
                given (λ pair. pair ≡ created_pair row) (row ∷ []) only (rw its (refl, tt)) in
                let parts = and_parts (eqb row.author person) (ltb 0 row.created_local) its in
                record {
                  row = row;
                  found = is;
                  author = eqb-true _ _ parts.0;
                  its_local = sym (ap (λ pair. pair.local) same);
                  positive = ltb-true _ _ parts.1;
                }
            | inr other ↦ absurd (given (λ _. ⊥) (row ∷ []) only (rw other tt))
          ]

-- ---- what is left once all numbers of a person are taken away

pub forgotten-changed : (person number : ℕ) (rows : List TextRow) (row : TextRow) →
    row_of number_of_text number rows ≡ Some row → row.author ≡ person → IsByNumber number_of_text rows →
    map (forgotten person) (changed_row number_of_text number (with_created_local 0) rows)
    ≡ map (forgotten person) rows
forgotten-changed person number [] row found by rising = absurd (none-some row found)
forgotten-changed person number (first ∷ rows) row found by rising = elim (cases_eq first.number number) [
  | inl is ↦
      let here : eqb first.number number ≡ true = eq-eqb _ _ is in
      let same : first ≡ row = same_Some _ _ (rw here at found) in
      let its : eqb first.author person ≡ true = eq-eqb _ _ (ap (λ r. r.author) same ∙ by) in
      let stays = changed_row-absent number_of_text number (with_created_local 0) rows
      (absent_above number rows (subst (λ n. table.AllAbove number_of_text n rows) is rising.0)) in
      rw (here, its) (ap (λ l. with_created_local 0 first ∷ map (forgotten person) l) stays)
  | inr ne ↦
      let other : eqb first.number number ≡ false = ne_eqb _ _ ne in
      let rest = forgotten-changed person number rows row (rw other at found) by rising.1 in
      rw other (ap (λ l. forgotten person first ∷ l) rest)
]

-- a text that has no number is left as it is
unnumbered : (row : TextRow) → row.created_local ≡ 0 → with_created_local 0 row ≡ row
unnumbered row none = ap (λ local. with_created_local local row) (sym none)

none_each : (person : ℕ) (rows : List TextRow) → AllByRecursion (λ _. ⊥) (pairs_by person rows) →
    map (forgotten person) rows ≡ rows
none_each person [] none = refl
none_each person (row ∷ rows) none = elim (cases_Bool (is_created_by person row)) [
  | inl is ↦
      let none : AllByRecursion (λ _. ⊥) (created_pair row ∷ pairs_by person rows) = rw is at none in absurd none.0
  | inr is ↦
      let rest = none_each person rows (rw is at none) in
      elim (cases_Bool (eqb row.author person)) [
        | inl its ↦
            let no_number : ltb 0 row.created_local ≡ false = rw its at is in
            let zero_local : row.created_local ≡ 0 = omega (arith, ltb-false _ _ no_number) in
            rw its (λ i. unnumbered row zero_local i ∷ rest i)
        | inr another ↦ rw another (ap (λ l. row ∷ l) rest)
      ]
]

pub forgotten-none : (person : ℕ) (rows : List TextRow) → least_of (created_by person rows) ≡ None →
    map (forgotten person) rows ≡ rows
forgotten-none person rows none =
    none_each person rows (all_of-rising_locals (λ _. ⊥) (pairs_by person rows) (empty (created_by person rows) none))
  where
    empty : (pairs : List LocalText) → least_of pairs ≡ None → AllByRecursion (λ _. ⊥) pairs
    empty [] none = tt
    empty (pair ∷ pairs) none = absurd (none-some pair.local (sym none))

-- ---- the least number

pub text_of-least : (local : ℕ) (pairs : List LocalText) → least_of pairs ≡ Some local →
    (number : ℕ) × (text_of local pairs ≡ Some number)
text_of-least local [] least = absurd (none-some local least)
text_of-least local (pair ∷ pairs) least =
    let here : eqb pair.local local ≡ true = eq-eqb _ _ (same_Some _ _ least) in
    (pair.text, rw here refl)

length-filter : (test : LocalText → Bool) (pairs : List LocalText) → length (filter test pairs) ≤ length pairs
length-filter test [] = omega arith
length-filter test (pair ∷ pairs) = elim (cases_Bool (test pair)) [
  | inl is ↦ rw is (omega (arith, length-filter test pairs))
  | inr is ↦ rw is (omega (arith, length-filter test pairs))
]

pub length-without_least : (local : ℕ) (pairs : List LocalText) → least_of pairs ≡ Some local →
    length (without local pairs) < length pairs
length-without_least local [] least = absurd (none-some local least)
length-without_least local (pair ∷ pairs) least =
    let here : eqb pair.local local ≡ true = eq-eqb _ _ (same_Some _ _ least) in
    rw here (omega (arith, length-filter (λ pair. not (eqb pair.local local)) pairs))

-- ---- all of it for one number

module _ (texts : List TextRow) (recipients : List Recipient) (locals created : Owned)
    (kept : IsKept texts recipients locals created) (new : Owned) (person local number : ℕ)
    (has : HasNumber person local number texts) where
  module _ (left : pairs_of new person ≡ without local (pairs_of created person))
      (others : HasOnlyChanged created new person) where
    pub kept-forgotten : IsKept (changed_row number_of_text number (with_created_local 0) texts) recipients locals new
    kept-forgotten =
        kept-forgotten_row texts recipients locals created kept number has.row has.found new has.positive
        (subst (λ p. pairs_of new p ≡ without has.row.created_local (pairs_of created p)) (sym has.author)
        (left ∙ ap (λ l. without l (pairs_of created person)) (sym has.its_local)))
        (subst (HasOnlyChanged created new) (sym has.author) others)

  pub created_by-without_number :
      created_by person (changed_row number_of_text number (with_created_local 0) texts)
      ≡ without local (created_by person texts)
  created_by-without_number =
      let left = created_by-left number texts has.row has.found kept.by_number has.positive
      (kept.authors_rise has.row.author) in
      created_by-forgotten person number texts
      ∙ subst (λ p. created_by p (without_row number_of_text number texts)
      ≡ without has.row.created_local (created_by p texts)) has.author left
      ∙ ap (λ l. without l (created_by person texts)) has.its_local
