-- The rows of a table after a membership is taken out.
use Rattle.std.proofs.Common.{◌≡◌, ℕ, Bool, true, false, not, ◌&&◌, eqb, nat_eq, List, [], ◌∷◌, map, filter, Some, None}
use Rattle.std.proofs.Common.{is_some, option_map, inl, inr, refl, sym, ◌∙◌, ap}
use Rattle.std.specs.Set.{is_member, remove_key}
use Rattle.std.proofs.lemmas.Bool.{cases_Bool, eqb-true, eqb-false}
use Rattle.kom_types.specs.tables.Memberships.{is_membership, membership_of, closed_up, without_membership}
use Rattle.memberships.specs.declared.kept.Kept.{Kept}
use Rattle.memberships.specs.Entries.{Key, Entry, same_key, kept_row, place_of, row_of, in_turn, rows_of, kept_at}
use Rattle.memberships.specs.Keeping.{IsTable}
use Rattle.memberships.proofs.Places.{flip_eqb, closed_place, place-remove_key}
use Rattle.memberships.proofs.Turns.{Sets}
use Rattle.memberships.proofs.Leaving.{Leaves, is_other, left}
use Rattle.memberships.proofs.Rows.{close_row, close-own, close-other, other_conference}
use Rattle.memberships.proofs.Viewing.{membership}

module _ (es fs : List Entry) (next : ℕ) (conferences persons lists : ℕ → List ℕ) (person conference : ℕ) (old : Kept)
    (table : IsTable es next conferences persons) (there : kept_at (person, conference) es ≡ Some old)
    (leaves : Leaves es fs person conference)
    (takes : Sets conferences lists person (remove_key (nat_eq conference) (conferences person))) where
  abbrev here : Key
  here = (person, conference)

  abbrev before : ℕ
  before = place_of conference (conferences person)

  is_there : is_member nat_eq (conferences person) conference ≡ true
  is_there = table.listed person conference ∙ ap is_some there

  closes : (key : Key) (v : Kept) → same_key here key ≡ false →
      row_of lists (key, v) ≡ close_row person before (row_of conferences (key, v))
  closes key v other = by (eqb key.0 person) refl
    where
      by : (b : Bool) → eqb key.0 person ≡ b →
          row_of lists (key, v) ≡ close_row person before (row_of conferences (key, v))
      by true own =
          let same : key.0 ≡ person = eqb-true key.0 person own in
          let apart : eqb key.1 conference ≡ false = other_conference key person conference other own in
          ap (λ l. kept_row key.0 key.1 (place_of key.1 l) v) (ap lists same ∙ takes.here)
          ∙ ap (λ n. kept_row key.0 key.1 n v) (place-remove_key (conferences person) conference key.1 is_there apart)
          ∙ ap (λ p. kept_row key.0 key.1 (closed_place before (place_of key.1 (conferences p))) v) (sym same)
          ∙ sym (close-own key.0 key.1 before (place_of key.1 (conferences key.0)) person v own)
      by false differs =
          ap (λ l. kept_row key.0 key.1 (place_of key.1 l) v) (takes.others key.0 (eqb-false key.0 person differs))
          ∙ sym (close-other before person (row_of conferences (key, v)) differs)

  each_row : (xs : List Entry) →
      map (row_of lists) (filter (is_other here) xs)
      ≡ map (close_row person before)
      (filter (λ row. not (is_membership person conference row)) (map (row_of conferences) xs))
  each_row [] = refl
  each_row (e ∷ xs) =
      let rest : map (row_of lists) (filter (is_other here) xs)
      ≡ map (close_row person before)
      (filter (λ row. not (is_membership person conference row)) (map (row_of conferences) xs)) = each_row xs in
      let whose : is_membership person conference (row_of conferences e) ≡ same_key here e.0 =
      λ i. flip_eqb e.0.0 person i && flip_eqb e.0.1 conference i in
      elim (cases_Bool (same_key here e.0)) [
        | inl is ↦ rw (is, whose ∙ is) rest
        | inr other ↦ rw (other, whose ∙ other) (λ i. closes e.0 e.1 other i ∷ rest i)
      ]

  rows_left : rows_of lists fs
      ≡ closed_up person before (filter (λ row. not (is_membership person conference row)) (rows_of conferences es))
  unfolding rows_of
  rows_left = ap (map (row_of lists)) (left es fs next conferences persons person conference table leaves)
      ∙ each_row (in_turn es)

  pub without_left : rows_of lists fs ≡ without_membership person conference (rows_of conferences es)
  without_left =
      let some : membership_of person conference (rows_of conferences es) ≡ Some (row_of conferences (here, old)) =
      membership es next conferences persons table person conference
      ∙ ap (option_map (λ kept. row_of conferences (here, kept))) there in
      rw (some, without_membership) rows_left

-- nothing changes where there is no such membership
pub without_none : (es fs : List Entry) (next : ℕ) (conferences persons : ℕ → List ℕ) (person conference : ℕ) →
    IsTable es next conferences persons → kept_at (person, conference) es ≡ None → fs ≡ es →
    rows_of conferences fs ≡ without_membership person conference (rows_of conferences es)
without_none es fs next conferences persons person conference table absent same =
    let none : membership_of person conference (rows_of conferences es) ≡ None =
    membership es next conferences persons table person conference
    ∙ ap (option_map (λ kept. row_of conferences ((person, conference), kept))) absent in
    rw (none, without_membership) (ap (rows_of conferences) same)
