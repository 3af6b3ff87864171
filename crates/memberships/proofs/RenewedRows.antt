-- The rows of a table after a membership is set again.
use Rattle.std.proofs.Common.{◌≡◌, ℕ, ◌+◌, ◌-◌, min, Bool, true, false, cond, ◌&&◌, eqb, ltb, leb, nat_eq, List, []}
use Rattle.std.proofs.Common.{◌∷◌, length, insert, map, Some, option_map, refl, sym, ◌∙◌, ap, arith}
use Rattle.std.specs.Set.{is_member, remove_key}
use Rattle.std.proofs.lemmas.Bool.{eqb-true, eqb-false}
use Rattle.std.proofs.lemmas.Map.Made.{length-remove_key}
use Rattle.kom_types.specs.declared.memberships.MembershipRow.{MembershipRow}
use Rattle.kom_types.specs.tables.Memberships.{is_membership, membership_of, count_of, closed_up, with_gap, replaced_by}
use Rattle.kom_types.specs.tables.Memberships.{with_membership}
use Rattle.memberships.specs.declared.kept.Kept.{Kept}
use Rattle.memberships.specs.Entries.{Key, Entry, same_key, kept_of, kept_row, place_of, row_of, in_turn, rows_of}
use Rattle.memberships.specs.Keeping.{IsTable}
use Rattle.memberships.proofs.Places.{flip_eqb, opened_place, closed_place, place-insert, place-insert_other}
use Rattle.memberships.proofs.Places.{place-remove_key}
use Rattle.memberships.proofs.Turns.{key_decides, Sets}
use Rattle.memberships.proofs.Renewing as renewing
use Rattle.memberships.proofs.Renewing.{Renews, renewed}
use Rattle.memberships.proofs.Rows.{open_row, close_row, open-own, open-other, close-own, close-other, other_conference}
use Rattle.memberships.proofs.Viewing.{membership, count}

-- opening and closing leaves whose membership a row is
same_membership : (p c q m a b : ℕ) (row : MembershipRow) →
    is_membership p c (open_row q a (close_row m b row)) ≡ is_membership p c row
same_membership p c q m a b row =
    elim (eqb row.person m && ltb b row.position) as (λ t.
    is_membership p c (open_row q a (cond t (record row { position = row.position - 1 }) row))
    ≡ is_membership p c row) [
      | true ↦ opens (record row { position = row.position - 1 })
      | false ↦ opens row
    ]
  where
    opens : (r : MembershipRow) → is_membership p c (open_row q a r) ≡ is_membership p c r
    opens r = elim (eqb r.person q && leb a r.position) as
        (λ t. is_membership p c (cond t (record r { position = r.position + 1 }) r) ≡ is_membership p c r) [
          | true ↦ refl
          | false ↦ refl
        ]

module _ (es fs : List Entry) (next : ℕ) (conferences persons lists : ℕ → List ℕ) (given : MembershipRow) (old : Kept)
    (table : IsTable es next conferences persons)
    (renews : Renews es fs given.person given.conference old (kept_of given old.turn old.last_time_read old.read))
    (moves : Sets conferences lists given.person
    (insert (remove_key (nat_eq given.conference) (conferences given.person)) given.position
    given.conference)) where
  abbrev new : Kept
  new = kept_of given old.turn old.last_time_read old.read

  abbrev here : Key
  here = (given.person, given.conference)

  abbrev others : List ℕ
  others = remove_key (nat_eq given.conference) (conferences given.person)

  abbrev at : ℕ
  at = min given.position (length others)

  abbrev before : ℕ
  before = place_of given.conference (conferences given.person)

  abbrev again : MembershipRow
  again = record given { position = at; last_time_read = old.last_time_read }

  abbrev moved : MembershipRow → MembershipRow
  moved row = open_row given.person at (close_row given.person before row)

  abbrev replaced : MembershipRow → MembershipRow
  replaced row = cond (is_membership given.person given.conference row) again row

  is_there : is_member nat_eq (conferences given.person) given.conference ≡ true
  is_there = renewing.is_there es fs next conferences persons given.person given.conference old new table renews

  not_among_others : is_member nat_eq others given.conference ≡ false
  not_among_others = renewing.not_among_others es fs next conferences persons given.person given.conference old new
      table renews

  own_row : (v : Kept) → row_of lists (here, record new { turn = v.turn }) ≡ again
  own_row v =
      ap (λ l. kept_row given.person given.conference (place_of given.conference l) new) moves.here
      ∙ ap (λ n. kept_row given.person given.conference n new)
      (place-insert others given.position given.conference not_among_others)

  other_row : (key : Key) (v : Kept) → same_key here key ≡ false →
      row_of lists (key, v) ≡ moved (row_of conferences (key, v))
  other_row key v other = by (eqb key.0 given.person) refl
    where
      by : (b : Bool) → eqb key.0 given.person ≡ b → row_of lists (key, v) ≡ moved (row_of conferences (key, v))
      by true own =
          let person : key.0 ≡ given.person = eqb-true key.0 given.person own in
          let conference : eqb key.1 given.conference ≡ false =
          other_conference key given.person given.conference other own in
          let xs : List ℕ = conferences given.person in
          ap (λ l. kept_row key.0 key.1 (place_of key.1 l) v) (ap lists person ∙ moves.here)
          ∙ ap (λ n. kept_row key.0 key.1 n v)
          (place-insert_other others given.position given.conference key.1 conference)
          ∙ ap (λ n. kept_row key.0 key.1 (opened_place at n) v)
          (place-remove_key xs given.conference key.1 is_there conference)
          ∙ ap (λ p. kept_row key.0 key.1 (opened_place at (closed_place before (place_of key.1 (conferences p)))) v)
          (sym person)
          ∙ sym (ap (open_row given.person at)
          (close-own key.0 key.1 before (place_of key.1 (conferences key.0)) given.person v own)
          ∙ open-own key.0 key.1 at (closed_place before (place_of key.1 (conferences key.0))) given.person v own)
      by false differs =
          ap (λ l. kept_row key.0 key.1 (place_of key.1 l) v)
          (moves.others key.0 (eqb-false key.0 given.person differs))
          ∙ sym (ap (open_row given.person at) (close-other before given.person (row_of conferences (key, v)) differs)
          ∙ open-other at given.person (row_of conferences (key, v)) differs)

  whose : (key : Key) (v : Kept) →
      is_membership given.person given.conference (moved (row_of conferences (key, v))) ≡ same_key here key
  whose key v =
      same_membership given.person given.conference given.person given.person at before (row_of conferences (key, v))
      ∙ (λ i. flip_eqb key.0 given.person i && flip_eqb key.1 given.conference i)

  each : (key : Key) (v : Kept) →
      row_of lists (renewed here new (key, v)) ≡ replaced (moved (row_of conferences (key, v)))
  each key v = by (same_key here key) refl
      ∙ sym (ap (λ b. cond b again (moved (row_of conferences (key, v)))) (whose key v))
    where
      by : (b : Bool) → same_key here key ≡ b →
          row_of lists (renewed here new (key, v))
          ≡ cond (same_key here key) again (moved (row_of conferences (key, v)))
      by true is =
          ap (λ b. row_of lists (key, cond b (record new { turn = v.turn }) v)) is
          ∙ ap (λ k. row_of lists (k, record new { turn = v.turn })) (sym ((key_decides here key).0 is)) ∙ own_row v
          ∙ sym (ap (λ b. cond b again (moved (row_of conferences (key, v)))) is)
      by false other =
          ap (λ b. row_of lists (key, cond b (record new { turn = v.turn }) v)) other ∙ other_row key v other
          ∙ sym (ap (λ b. cond b again (moved (row_of conferences (key, v)))) other)

  each_row : (xs : List Entry) →
      map (row_of lists) (map (renewed here new) xs)
      ≡ map replaced (map (open_row given.person at)
      (map (close_row given.person before) (map (row_of conferences) xs)))
  each_row [] = refl
  each_row (e ∷ xs) = λ i. each e.0 e.1 i ∷ each_row xs i

  rows_renewed : rows_of lists fs
      ≡ replaced_by again (with_gap given.person at (closed_up given.person before (rows_of conferences es)))
  unfolding rows_of
  rows_renewed =
      ap (map (row_of lists))
      (renewing.kept_turns es fs next conferences persons given.person given.conference old new table renews)
      ∙ each_row (in_turn es)

  pub with_renewed : rows_of lists fs ≡ with_membership given (rows_of conferences es)
  with_renewed =
      let some : membership_of given.person given.conference (rows_of conferences es)
      ≡ Some (row_of conferences (here, old)) =
      membership es next conferences persons table given.person given.conference
      ∙ ap (option_map (λ kept. row_of conferences (here, kept))) renews.there in
      let count : count_of given.person (rows_of conferences es) ≡ length (conferences given.person) =
      count es next conferences persons table given.person in
      let rest : length others + 1 ≡ length (conferences given.person) =
      length-remove_key (nat_eq given.conference) (conferences given.person) is_there in
      let shorter : length others ≡ count_of given.person (rows_of conferences es) - 1 = omega arith in
      rw (some, with_membership)
      (rows_renewed ∙ ap (λ n. replaced_by (record given {
        position = min given.position n;
        last_time_read =
            old.last_time_read;
      })
      (with_gap given.person (min given.position n) (closed_up given.person before (rows_of conferences es)))) shorter)
