-- Where the memberships of a table stand.
use Rattle.std.proofs.Common.{◌≡◌, ℕ, List, map, Some, None, slice_get, sym, ap, ◌∙◌}
use Rattle.std.specs.List.{AllByRecursion}
use Rattle.kom_types.specs.declared.memberships.MembershipRow.{MembershipRow}
use Rattle.kom_types.specs.tables.Memberships.{placed_of}
use Rattle.memberships.specs.declared.kept.Kept.{Kept}
use Rattle.memberships.specs.Entries.{Key, Entry, place_of, row_of, in_turn, rows_of, kept_at}
use Rattle.memberships.specs.Keeping.{IsTable}
use Rattle.memberships.specs.Placing.{position_of, placed_at}
use Rattle.memberships.proofs.Finding.{found, person_kept, some_kept}
use Rattle.memberships.proofs.Pairs.{all_map, two_maps}
use Rattle.memberships.proofs.Places.{place_at}
use Rattle.memberships.proofs.Turns.{AreInTurn, in_turn_is, all_in_turn}

module _ (es : List Entry) (next : ℕ) (conferences persons : ℕ → List ℕ)
    (table : IsTable es next conferences persons) where
  position_kept : (p c : ℕ) (v : Kept) → kept_at (p, c) es ≡ Some v →
      position_of (rows_of conferences es) (p, c) ≡ place_of c (conferences p)
  position_kept p c v there =
      ap (λ o. elim o [ None ↦ 0 | Some row ↦ row.position ]) (found es next conferences persons table p c v there)

  -- a conference at a place of the list of a person stands there
  pub position_at : (p place c : ℕ) → slice_get (conferences p) place ≡ Some c →
      place ≡ position_of (rows_of conferences es) (p, c)
  position_at p place c at =
      let kept = some_kept (kept_at (p, c) es) (person_kept es next conferences persons table p place c at) in
      sym (position_kept p c kept.0 kept.1 ∙ place_at (conferences p) place c (table.once p) at)

  turns : AreInTurn (in_turn es) (λ key. kept_at key es)
  turns = in_turn_is es table.unique table.apart

  abbrev key_in : MembershipRow → Key
  key_in row = (row.person, row.conference)

  abbrev StandsSo : MembershipRow → Type 0
  StandsSo row = placed_of row ≡ placed_at (rows_of conferences es) (key_in row)

  stands : (key : Key) (v : Kept) → kept_at key es ≡ Some v → StandsSo (row_of conferences (key, v))
  stands key v there =
      let place = sym (position_kept key.0 key.1 v there) in
      λ i. record { person = key.0; conference = key.1; position = place i }

  all_stand : AllByRecursion StandsSo (rows_of conferences es)
  unfolding rows_of
  all_stand =
      all_map StandsSo (row_of conferences) (in_turn es)
      (all_in_turn (λ e. StandsSo (row_of conferences e)) (in_turn es) (λ key. kept_at key es) turns stands)

  -- each membership stands where its key finds it
  pub rows_placed : map (placed_at (rows_of conferences es)) (map key_in (rows_of conferences es))
      ≡ map placed_of (rows_of conferences es)
  rows_placed =
      sym (two_maps placed_of (placed_at (rows_of conferences es)) key_in (rows_of conferences es) all_stand)
