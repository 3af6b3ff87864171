-- The memberships of a person, by their places, are those that have the person.
use Rattle.std.proofs.Common.{◌≡◌, ℕ, true, eqb, ltb, List, [], ◌∷◌, map, filter, Some, is_some, inl, inr, refl, sym}
use Rattle.std.proofs.Common.{ap, ◌∙◌}
use Rattle.std.specs.List.{AllByRecursion, IsDistinct, fold, range_with_len}
use Rattle.std.proofs.lemmas.Bool.{cases_Bool, cond_both, eq-eqb, true≢false}
use Rattle.std.proofs.lemmas.Map.Keys.{IsDistinct-head, IsDistinct-tail}
use Rattle.row_table.specs.Tables.{row_of}
use Rattle.kom_types.specs.declared.memberships.MembershipRow.{MembershipRow}
use Rattle.kom_types.specs.tables.Conferences.{number_of_conference}
use Rattle.kom_types.specs.tables.Memberships as Memberships
use Rattle.kom_types.specs.tables.Memberships.{by_position, is_membership}
use Rattle.kom_model.specs.Db.{Db, conference_of, membership_of, memberships_of}
use Rattle.memberships.specs.Entries.{same_key}
use Rattle.memberships.specs.Table.{IsOrderly}
use Rattle.kom_model.specs.Whole.{IsWhole}
use Rattle.kom_state.specs.Placed.{AreThere, AreInPlace, AreFound}
use Rattle.kom_state.proofs.Members.{length-memberships_of}
use Rattle.kom_state.proofs.Secrecy.{none_after}
use Rattle.kom_state.proofs.TableRows.{all_kept, all_weaker}

module _ (P : MembershipRow → Type 0) where
  all_by_position : (row : MembershipRow) (rows : List MembershipRow) → P row → AllByRecursion P rows →
      AllByRecursion P (by_position row rows)
  all_by_position row [] here all = (here, tt)
  all_by_position row (first ∷ rows) here all =
      cond_both (ltb row.position first.position) (row ∷ first ∷ rows) (first ∷ by_position row rows)
      (AllByRecursion P) (λ _. (here, all)) (λ _. (all.0, all_by_position row rows here all.1))

  all_placed : (sorted rows : List MembershipRow) → AllByRecursion P sorted → AllByRecursion P rows →
      AllByRecursion P (fold (λ sorted row. by_position row sorted) sorted rows)
  all_placed sorted [] all all' = all
  all_placed sorted (row ∷ rows) all all' =
      all_placed (by_position row sorted) rows (all_by_position row sorted all'.0 all) all'.1

  -- what holds of all that have the person
  pub all_own : (person : ℕ) (rows : List MembershipRow) →
      AllByRecursion P (filter (λ row. eqb row.person person) rows) →
      AllByRecursion P (Memberships.memberships_of person rows)
  all_own person rows all = all_placed [] (filter (λ row. eqb row.person person) rows) tt all

-- ---- what is known of them
pub are_there : (db : Db) (person : ℕ) → IsWhole db → AreThere db person
unfolding conference_of memberships_of
are_there db person whole =
    let P : MembershipRow → Type 0 =
    λ row. is_some (row_of number_of_conference row.conference db.conferences) ≡ true in
    all_own P person db.memberships
    (all_kept P (λ row. eqb row.person person) db.memberships whole.memberships.conference_there)

counted : (db : Db) (person : ℕ) → IsOrderly db.memberships →
    map (λ row. row.position) (memberships_of db person) ≡ range_with_len 0 (Memberships.count_of person db.memberships)
unfolding memberships_of
counted db person orderly = orderly.counted person

pub are_in_place : (db : Db) (person : ℕ) → IsOrderly db.memberships → AreInPlace db person
are_in_place db person orderly =
    counted db person orderly ∙ ap (range_with_len 0) (sym (length-memberships_of db person))

-- ---- each is found by its conference
found_rows : (person : ℕ) (rows : List MembershipRow) →
    IsDistinct same_key (map (λ row. (row.person, row.conference)) rows) →
    AllByRecursion (λ row. Memberships.membership_of person row.conference rows ≡ Some row)
    (filter (λ row. eqb row.person person) rows)
found_rows person [] once = tt
found_rows person (first ∷ rows) once =
    let later = all_weaker (λ row. Memberships.membership_of person row.conference rows ≡ Some row)
    (λ row. Memberships.membership_of person row.conference (first ∷ rows) ≡ Some row) past
    (filter (λ row. eqb row.person person) rows)
    (found_rows person rows (IsDistinct-tail same_key (first.person, first.conference)
    (map (λ r. (r.person, r.conference)) rows) once)) in
    cond_both (eqb first.person person) (first ∷ filter (λ row. eqb row.person person) rows)
    (filter (λ row. eqb row.person person) rows)
    (AllByRecursion (λ row. Memberships.membership_of person row.conference (first ∷ rows) ≡ Some row))
    (λ same. (rw (same, eq-eqb first.conference first.conference refl) refl, later))
    (λ _. later)
  where
    past : (row : MembershipRow) → Memberships.membership_of person row.conference rows ≡ Some row →
        Memberships.membership_of person row.conference (first ∷ rows) ≡ Some row
    past row found = elim (cases_Bool (is_membership person row.conference first)) [
      | inl is ↦ absurd
          (true≢false (sym (ap is_some found)
          ∙ none_after person row.conference first rows is
          (IsDistinct-head same_key (first.person, first.conference) (map (λ r. (r.person, r.conference)) rows) once)))
      | inr other ↦ rw other found
    ]

pub are_found : (db : Db) (person : ℕ) → IsOrderly db.memberships → AreFound db person
unfolding membership_of memberships_of
are_found db person orderly =
    all_own (λ row. Memberships.membership_of person row.conference db.memberships ≡ Some row) person db.memberships
    (found_rows person db.memberships orderly.once)
