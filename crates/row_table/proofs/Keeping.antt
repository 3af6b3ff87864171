-- The rows of a map as a table: the row of a number is the one under it, and what an update of the map makes of them.
use Rattle.std.proofs.Common.{◌≡◌, ℕ, true, false, cond, eqb, List, [], ◌∷◌, length, suc, Option, Some, None}
use Rattle.std.proofs.Common.{option_map, refl, sym, ap, ◌∙◌, ⊎_elim}
use Rattle.std.proofs.lemmas.Bool.{cases_eq, ne_eqb, eq-eqb}
use Rattle.std.proofs.lemmas.Map.Keys.{IsDistinct-head, IsDistinct-tail}
use Rattle.std.specs.List.{AllByRecursion, IsDistinct}
use Rattle.std.specs.Map.{keys_of, values_of, lookup}
use Rattle.indexmap.specs.IndexMap.{IndexMap, get, values, index_map_len, IsUnique}
use Rattle.row_table.specs.Tables.{row_of, with_row, without_row, changed_row, IsByNumber}
use Rattle.row_table.specs.Keeping.{by_number, table_of, IsKept}
use Rattle.row_table.proofs.Rows.{same_rows, row_of-with_row, IsByNumber-with_row, row_of-without_row, length-with_row}
use Rattle.row_table.proofs.Rows.{IsByNumber-without_row, row_of-changed_row, IsByNumber-changed_row}

module _ {R : Type 0} (number_of : R → ℕ) where
  IsByNumber-by_number : (rows : List R) → IsByNumber number_of (by_number number_of rows)
  IsByNumber-by_number [] = tt
  IsByNumber-by_number (row ∷ rows) =
      IsByNumber-with_row number_of row (by_number number_of rows) (IsByNumber-by_number rows)

  -- each row is under its number
  abbrev AreNumbered : List (ℕ × R) → Type 0
  AreNumbered entries = AllByRecursion (λ entry. number_of entry.1 ≡ entry.0) entries

  row_of-by_number : (number : ℕ) (entries : List (ℕ × R)) → AreNumbered entries →
      row_of number_of number (by_number number_of (values_of entries)) ≡ lookup (eqb number) entries
  row_of-by_number number [] numbered = refl
  row_of-by_number number (entry ∷ entries) numbered =
      let under : number_of entry.1 ≡ entry.0 = numbered.0 in
      let later = row_of-by_number number entries numbered.1 in
      row_of-with_row number_of number entry.1 (by_number number_of (values_of entries))
      ∙ rw (under, later) (⊎_elim
      (λ same.
      let here : eqb number entry.0 ≡ true = eq-eqb _ _ same in
      let here' : eqb entry.0 number ≡ true = eq-eqb _ _ (sym same) in rw (here, here') refl)
      (λ ne.
      let other : eqb number entry.0 ≡ false = ne_eqb _ _ ne in
      let other' : eqb entry.0 number ≡ false = ne_eqb _ _ (λ e. ne (sym e)) in rw (other, other') refl)
      (cases_eq number entry.0))

  lookup-absent : (number : ℕ) (entries : List (ℕ × R)) →
      AllByRecursion (λ key. eqb number key ≡ false) (keys_of entries) → lookup (eqb number) entries ≡ None
  lookup-absent number [] absent = refl
  lookup-absent number (entry ∷ entries) absent =
      let other : eqb number entry.0 ≡ false = absent.0 in rw other (lookup-absent number entries absent.1)

  numbered_entries : (entries : List (ℕ × R)) → IsDistinct eqb (keys_of entries) →
      ((number : ℕ) (row : R) → lookup (eqb number) entries ≡ Some row → number_of row ≡ number) → AreNumbered entries
  numbered_entries [] distinct numbered = tt
  numbered_entries (entry ∷ entries) distinct numbered =
      let here : eqb entry.0 entry.0 ≡ true = eq-eqb _ _ refl in (
        numbered entry.0 entry.1 (rw here refl),
        numbered_entries entries (IsDistinct-tail eqb entry.0 (keys_of entries) distinct) (λ number row found.
            numbered number row (⊎_elim
            (λ same.
            let none : lookup (eqb number) entries ≡ None =
            rw same (lookup-absent entry.0 entries (IsDistinct-head eqb entry.0 (keys_of entries) distinct)) in
            let no : None ≡ Some row = sym none ∙ found in cc)
            (λ ne. let other : eqb number entry.0 ≡ false = ne_eqb _ _ ne in rw other found)
            (cases_eq number entry.0))),
      )

  length-by_number : (entries : List (ℕ × R)) → IsDistinct eqb (keys_of entries) → AreNumbered entries →
      length (by_number number_of (values_of entries)) ≡ length entries
  length-by_number [] distinct numbered = refl
  length-by_number (entry ∷ entries) distinct numbered =
      let under : number_of entry.1 ≡ entry.0 = numbered.0 in
      let rest = IsDistinct-tail eqb entry.0 (keys_of entries) distinct in
      let absent : row_of number_of (number_of entry.1) (by_number number_of (values_of entries)) ≡ None =
      row_of-by_number (number_of entry.1) entries numbered.1
      ∙ rw under (lookup-absent entry.0 entries (IsDistinct-head eqb entry.0 (keys_of entries) distinct)) in
      length-with_row number_of entry.1 (by_number number_of (values_of entries)) absent
      ∙ ap suc (length-by_number entries rest numbered.1)

  module _ {S : Type 0} where
    pub IsByNumber-tabled : (map : IndexMap ℕ R S) → IsByNumber number_of (table_of number_of map).rows
    IsByNumber-tabled map = IsByNumber-by_number (values map)

    pub row_of-tabled : (map : IndexMap ℕ R S) → IsKept number_of map → (number : ℕ) →
        row_of number_of number (table_of number_of map).rows ≡ get eqb map number
    row_of-tabled map kept number =
        row_of-by_number number map.entries (numbered_entries map.entries kept.unique kept.numbered)

    pub length-tabled : (map : IndexMap ℕ R S) → IsKept number_of map →
        length (table_of number_of map).rows ≡ index_map_len map
    length-tabled map kept =
        length-by_number map.entries kept.unique (numbered_entries map.entries kept.unique kept.numbered)

    -- the map has this under the number now, and what it had under the others
    pub record IsUpdated (old new : IndexMap ℕ R S) (number : ℕ) (row : Option R) : Type 0 where
      pub kept : IsKept number_of old
      pub unique : IsUnique eqb new
      pub changes : (q : ℕ) → get eqb new q ≡ cond (eqb number q) row (get eqb old q)
      pub numbered : (there : R) → row ≡ Some there → number_of there ≡ number

    module _ (old new : IndexMap ℕ R S) (number : ℕ) where
      pub IsKept-updated : (row : Option R) → IsUpdated old new number row → IsKept number_of new
      IsKept-updated row is = record {
        unique = is.unique;
        numbered = λ q there found. ⊎_elim
            (λ same.
            let here : eqb number q ≡ true = eq-eqb _ _ same in
            let now : get eqb new q ≡ row = is.changes q ∙ rw here refl in
            is.numbered there (sym now ∙ found) ∙ same)
            (λ ne.
            let other : eqb number q ≡ false = ne_eqb _ _ ne in
            let now : get eqb new q ≡ get eqb old q = is.changes q ∙ rw other refl in
            is.kept.numbered q there (sym now ∙ found))
            (cases_eq number q);
      }

      rows_updated : (row : Option R) → IsUpdated old new number row → (rows : List R) → IsByNumber number_of rows →
          ((q : ℕ) →
          row_of number_of q rows ≡ cond (eqb number q) row (row_of number_of q (table_of number_of old).rows)) →
          (table_of number_of new).rows ≡ rows
      rows_updated row is rows rising same =
          same_rows number_of (table_of number_of new).rows rows (IsByNumber-tabled new) rising
          (λ q. row_of-tabled new (IsKept-updated row is) q ∙ is.changes q
          ∙ ap (λ had. cond (eqb number q) row had) (sym (row_of-tabled old is.kept q)) ∙ sym (same q))

      -- this row is under its number now
      pub IsUpdated-put : (row : R) → IsKept number_of old → IsUnique eqb new →
          ((q : ℕ) → get eqb new q ≡ cond (eqb number q) (Some row) (get eqb old q)) → number_of row ≡ number →
          IsUpdated old new number (Some row)
      IsUpdated-put row kept unique changes at = record {
        kept = kept;
        unique = unique;
        changes = changes;
        numbered = λ there is. let same : row ≡ there = cc in ap number_of (sym same) ∙ at;
      }

      -- a row was put under its number
      pub rows-put : (row : R) → number_of row ≡ number → IsUpdated old new number (Some row) →
          (table_of number_of new).rows ≡ with_row number_of row (table_of number_of old).rows
      rows-put row at is =
          let rows = (table_of number_of old).rows in
          rows_updated (Some row) is (with_row number_of row rows)
          (IsByNumber-with_row number_of row rows (IsByNumber-tabled old))
          (λ q. row_of-with_row number_of q row rows
          ∙ ap (λ n. cond (eqb n q) (Some row) (row_of number_of q rows)) at)

      -- the row of the number was taken out
      pub rows-removed : IsUpdated old new number None →
          (table_of number_of new).rows ≡ without_row number_of number (table_of number_of old).rows
      rows-removed is =
          let rows = (table_of number_of old).rows in
          rows_updated None is (without_row number_of number rows)
          (IsByNumber-without_row number_of number rows (IsByNumber-tabled old))
          (λ q. row_of-without_row number_of q number rows)

      -- the row of the number was changed
      pub rows-changed : (change : R → R) → ((row : R) → number_of (change row) ≡ number_of row) → (row : R) →
          get eqb old number ≡ Some row → IsUpdated old new number (Some (change row)) →
          (table_of number_of new).rows ≡ changed_row number_of number change (table_of number_of old).rows
      rows-changed change keeps row there is =
          let rows = (table_of number_of old).rows in
          rows_updated (Some (change row)) is (changed_row number_of number change rows)
          (IsByNumber-changed_row number_of change keeps number rows (IsByNumber-tabled old))
          (λ q. row_of-changed_row number_of change keeps q number rows
          ∙ ap (λ had. cond (eqb number q) (option_map change had) (row_of number_of q rows))
          (row_of-tabled old is.kept number ∙ there))
