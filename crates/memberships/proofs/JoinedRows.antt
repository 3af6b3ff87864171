-- The rows of a table after a new membership.
use Rattle.std.proofs.Common.{◌≡◌, ℕ, min, Bool, true, false, eqb, nat_eq, List, [], ◌∷◌, ◌++◌, length, insert, map}
use Rattle.std.proofs.Common.{Some, None, option_map, refl, sym, ◌∙◌, ap}
use Rattle.std.specs.Set.{is_member}
use Rattle.std.proofs.lemmas.Bool.{eqb-true, eqb-false, false_from_ne_true}
use Rattle.std.proofs.lemmas.List.{map-append}
use Rattle.std.proofs.lemmas.Option.{none-some}
use Rattle.kom_types.specs.declared.memberships.MembershipRow.{MembershipRow}
use Rattle.kom_types.specs.tables.Memberships.{membership_of, count_of, with_gap, with_membership}
use Rattle.read_ranges.specs.Numbers.{ReadSet}
use Rattle.memberships.specs.declared.kept.Kept.{Kept}
use Rattle.memberships.specs.Entries.{Key, Entry, kept_of, kept_row, place_of, row_of, in_turn, rows_of, kept_at}
use Rattle.memberships.specs.Keeping.{IsTable}
use Rattle.memberships.proofs.Pairs.{two_maps}
use Rattle.memberships.proofs.Places.{opened_place, place-insert, place-insert_other}
use Rattle.memberships.proofs.Turns.{key_decides, AreInTurn, in_turn_is, all_in_turn, Sets}
use Rattle.memberships.proofs.Joining.{Joins, joined, no_member}
use Rattle.memberships.proofs.Rows.{open_row, open-own, open-other, other_conference}
use Rattle.memberships.proofs.Viewing.{membership, count}

module _ (es fs : List Entry) (next : ℕ) (conferences persons lists : ℕ → List ℕ) (given : MembershipRow)
    (read : ReadSet)
    (table : IsTable es next conferences persons)
    (joins : Joins es fs next given.person given.conference (kept_of given next given.last_time_read read))
    (puts : Sets conferences lists given.person
    (insert (conferences given.person) given.position given.conference)) where
  abbrev new : Kept
  new = kept_of given next given.last_time_read read

  abbrev here : Key
  here = (given.person, given.conference)

  abbrev at : ℕ
  at = min given.position (length (conferences given.person))

  absent : is_member nat_eq (conferences given.person) given.conference ≡ false
  absent = no_member es fs next conferences persons given.person given.conference new table joins

  opens : (key : Key) (v : Kept) → kept_at key es ≡ Some v →
      row_of lists (key, v) ≡ open_row given.person at (row_of conferences (key, v))
  opens key v there = by (eqb key.0 given.person) refl
    where
      by : (b : Bool) → eqb key.0 given.person ≡ b →
          row_of lists (key, v) ≡ open_row given.person at (row_of conferences (key, v))
      by true own =
          let person : key.0 ≡ given.person = eqb-true key.0 given.person own in
          let conference : eqb key.1 given.conference ≡ false =
          other_conference key given.person given.conference
          (false_from_ne_true _
          (λ is. none-some v (sym joins.absent ∙ ap (λ k. kept_at k es) ((key_decides here key).0 is) ∙ there)))
          own in
          ap (λ l. kept_row key.0 key.1 (place_of key.1 l) v) (ap lists person ∙ puts.here)
          ∙ ap (λ n. kept_row key.0 key.1 n v)
          (place-insert_other (conferences given.person) given.position given.conference key.1 conference)
          ∙ ap (λ p. kept_row key.0 key.1 (opened_place at (place_of key.1 (conferences p))) v) (sym person)
          ∙ sym (open-own key.0 key.1 at (place_of key.1 (conferences key.0)) given.person v own)
      by false other =
          ap (λ l. kept_row key.0 key.1 (place_of key.1 l) v) (puts.others key.0 (eqb-false key.0 given.person other))
          ∙ sym (open-other at given.person (row_of conferences (key, v)) other)

  last : row_of lists (here, new) ≡ record given { position = at }
  last =
      ap (λ l. kept_row given.person given.conference (place_of given.conference l) new) puts.here
      ∙ ap (λ n. kept_row given.person given.conference n new)
      (place-insert (conferences given.person) given.position given.conference absent)

  turns : AreInTurn (in_turn es) (λ key. kept_at key es)
  turns = in_turn_is es table.unique table.apart

  rows_joined : rows_of lists fs ≡ with_gap given.person at (rows_of conferences es)
      ++ record given { position = at } ∷ []
  unfolding rows_of
  rows_joined =
      ap (map (row_of lists)) (joined es fs next conferences persons given.person given.conference new table joins)
      ∙ map-append (row_of lists) (in_turn es) ((here, new) ∷ [])
      ∙ (λ i. two_maps (row_of lists) (open_row given.person at) (row_of conferences) (in_turn es)
      (all_in_turn (λ e. row_of lists e ≡ open_row given.person at (row_of conferences e)) (in_turn es)
      (λ key. kept_at key es) turns opens) i ++ last i ∷ [])

  pub with_joined : rows_of lists fs ≡ with_membership given (rows_of conferences es)
  with_joined =
      let none : membership_of given.person given.conference (rows_of conferences es) ≡ None =
      membership es next conferences persons table given.person given.conference
      ∙ ap (option_map (λ kept. row_of conferences (here, kept))) joins.absent in
      let count : count_of given.person (rows_of conferences es) ≡ length (conferences given.person) =
      count es next conferences persons table given.person in
      rw (none, with_membership)
      (rows_joined ∙ ap (λ n. with_gap given.person (min given.position n) (rows_of conferences es)
      ++ record given { position = min given.position n } ∷ []) (sym count))
