-- What was read in each membership: what is found, and what changes leave.
use Rattle.std.proofs.Common.{◌≡◌, ℕ, Bool, true, false, cond, not, ◌&&◌, ◌||◌, List, [], ◌∷◌, ◌++◌, map, filter}
use Rattle.std.proofs.Common.{Option, Some, None, is_some, option_map, refl, sym, ◌∙◌, ap}
use Rattle.std.specs.List.{All, AllByRecursion, list_any}
use Rattle.std.proofs.lemmas.List.{map-append}
use Rattle.std.proofs.lemmas.List.Elements.{All-nil, All-cons}
use Rattle.std.proofs.lemmas.Option.{none-some}
use Rattle.kom_types.specs.declared.memberships.MembershipRow.{MembershipRow}
use Rattle.kom_types.specs.declared.memberships.ReadRange.{ReadRange}
use Rattle.kom_types.specs.tables.Memberships.{is_membership}
use Rattle.read_ranges.specs.Numbers.{ReadSet, AreRanges, ranges_of}
use Rattle.read_ranges.specs.Reads.{ReadRow, is_read_of, read_of, with_reader, without_reader, with_read, read_at}
use Rattle.read_ranges.proofs.Sets.{rise_ranges_of}
use Rattle.memberships.specs.declared.kept.Kept.{Kept}
use Rattle.memberships.specs.Entries.{Key, Entry, same_key, kept_with_read, row_of, rows_of, in_turn, read_row}
use Rattle.memberships.specs.Entries.{reads_of, kept_at}
use Rattle.memberships.specs.Keeping.{IsTable}
use Rattle.memberships.specs.Table.{IsReadOf}
use Rattle.memberships.proofs.Pairs.{all_map, all_weaker, map-map, two_maps, filter-map}
use Rattle.memberships.proofs.Places.{flip_eqb}
use Rattle.memberships.proofs.Turns.{key_decides, AreInTurn, in_turn_is, all_in_turn}
use Rattle.memberships.proofs.Joining.{Joins, joined}
use Rattle.memberships.proofs.Renewing.{Renews, each_entry}
use Rattle.memberships.proofs.Leaving.{Leaves, is_other, filter-others, left}
use Rattle.memberships.proofs.Viewing.{find-made, tells_membership}

tells_read : (p c : ℕ) (e : Entry) → is_read_of p c (read_row e) ≡ same_key (p, c) e.0
tells_read p c e = λ i. flip_eqb e.0.0 p i && flip_eqb e.0.1 c i

all_of : {X : Type 0} {P : X → Type 0} → ((x : X) → P x) → (xs : List X) → AllByRecursion P xs
all_of each [] = tt
all_of each (x ∷ xs) = (each x, all_of each xs)

all_from : {X : Type 0} (P : X → Type 0) (xs : List X) → AllByRecursion P xs → All P xs
all_from P [] all = All-nil P
all_from P (x ∷ xs) all = All-cons P x xs all.0 (all_from P xs all.1)

-- whether something was read in a membership that is there
any-read : (p c : ℕ) (es : List Entry) →
    list_any (is_read_of p c) (map read_row es) ≡ is_some (kept_at (p, c) es)
any-read p c [] = refl
any-read p c (e ∷ es) =
    ap (λ b. b || list_any (is_read_of p c) (map read_row es)) (tells_read p c e)
    ∙ elim (same_key (p, c) e.0) as
    (λ b. (b || list_any (is_read_of p c) (map read_row es)) ≡ is_some (cond b (Some e.1) (kept_at (p, c) es))) [
      | true ↦ refl
      | false ↦ any-read p c es
    ]

-- what a person has read of a conference
abbrev the_read : ℕ → ℕ → List ReadRange → ReadRow
the_read p c ranges = record { person = p; conference = c; ranges = ranges }

abbrev with_ranges : ℕ → ℕ → List ReadRange → ReadRow → ReadRow
with_ranges p c ranges row = cond (is_read_of p c row) (record row { ranges = ranges }) row

abbrev with_moment : ℕ → ℕ → ℕ → MembershipRow → MembershipRow
with_moment p c at row = cond (is_membership p c row) (record row { last_time_read = at }) row

-- what was made of the entry of another key stays
other_read : (p c : ℕ) (ranges : List ReadRange) (e : Entry) → same_key (p, c) e.0 ≡ false →
    read_row e ≡ with_ranges p c ranges (read_row e)
other_read p c ranges e other =
    sym (ap (λ b. cond b (record (read_row e) { ranges = ranges }) (read_row e)) (tells_read p c e ∙ other))

other_row : (lists : ℕ → List ℕ) (p c at : ℕ) (e : Entry) → same_key (p, c) e.0 ≡ false →
    row_of lists e ≡ with_moment p c at (row_of lists e)
other_row lists p c at e other =
    sym (ap (λ b. cond b (record (row_of lists e) { last_time_read = at }) (row_of lists e))
    (tells_membership lists p c e ∙ other))

-- the rows without those of a key
reads_but : (p c : ℕ) (es : List Entry) →
    filter (λ row. not (is_read_of p c row)) (map read_row es) ≡ map read_row (filter (is_other (p, c)) es)
reads_but p c es =
    filter-map (λ (row : ReadRow). not (is_read_of p c row)) read_row es
    ∙ (λ i. map read_row (filter (λ e. not (tells_read p c e i)) es))

own_key : (p c : ℕ) → same_key (p, c) (p, c) ≡ true
own_key p c = (key_decides (p, c) (p, c)).1 refl

module _ (es : List Entry) (next : ℕ) (conferences persons : ℕ → List ℕ)
    (table : IsTable es next conferences persons) (p c : ℕ) where
  turns : AreInTurn (in_turn es) (λ key. kept_at key es)
  turns = in_turn_is es table.unique table.apart

  any_there : list_any (is_read_of p c) (reads_of es) ≡ is_some (kept_at (p, c) es)
  unfolding reads_of
  any_there = any-read p c (in_turn es) ∙ ap is_some (turns.found (p, c))

  -- what is read where something is kept
  pub found_read : (v : Kept) → kept_at (p, c) es ≡ Some v →
      read_of p c (reads_of es) ≡ ranges_of v.read.numbers
  unfolding reads_of
  found_read v there =
      ap (λ (o : Option ReadRow). elim o [ None ↦ [] | Some row ↦ row.ranges ])
      (find-made read_row (is_read_of p c) (p, c) (tells_read p c) (in_turn es)
      ∙ ap (option_map (λ kept. read_row ((p, c), kept))) (turns.found (p, c) ∙ there))

  -- and where nothing is kept
  pub nothing_read : kept_at (p, c) es ≡ None → read_of p c (reads_of es) ≡ []
  unfolding reads_of
  nothing_read absent =
      ap (λ (o : Option ReadRow). elim o [ None ↦ [] | Some row ↦ row.ranges ])
      (find-made read_row (is_read_of p c) (p, c) (tells_read p c) (in_turn es)
      ∙ ap (option_map (λ kept. read_row ((p, c), kept))) (turns.found (p, c) ∙ absent))

  others_absent : kept_at (p, c) es ≡ None → AllByRecursion (λ e. same_key (p, c) e.0 ≡ false) (in_turn es)
  others_absent absent = all_in_turn (λ e. same_key (p, c) e.0 ≡ false) (in_turn es) (λ key. kept_at key es) turns
      (λ key v there. by key v there (same_key (p, c) key) refl)
    where
      by : (key : Key) (v : Kept) → kept_at key es ≡ Some v → (b : Bool) → same_key (p, c) key ≡ b →
          same_key (p, c) key ≡ false
      by key v there true is =
          absurd (none-some v (sym absent ∙ ap (λ k. kept_at k es) ((key_decides (p, c) key).0 is) ∙ there))
      by key v there false other = other

  pub read_rows : IsReadOf (rows_of conferences es) (reads_of es)
  unfolding rows_of reads_of
  read_rows = record {
    same =
        map-map (λ (read : ReadRow). (read.person, read.conference)) read_row (in_turn es)
        ∙ sym (map-map (λ (row : MembershipRow). (row.person, row.conference)) (row_of conferences) (in_turn es));
    ranges =
        all_from (λ (read : ReadRow). AreRanges read.ranges) (map read_row (in_turn es))
        (all_map (λ (read : ReadRow). AreRanges read.ranges) read_row (in_turn es)
        (all_of (λ e. rise_ranges_of e.1.read.numbers) (in_turn es)));
  }

  -- nothing changes where there is no such membership
  pub unread_none : (ranges : List ReadRange) → kept_at (p, c) es ≡ None →
      reads_of es ≡ with_read p c ranges (reads_of es)
  unfolding reads_of
  unread_none ranges absent =
      two_maps read_row (with_ranges p c ranges) read_row (in_turn es)
      (all_weaker (λ e. same_key (p, c) e.0 ≡ false)
      (λ e. read_row e ≡ with_ranges p c ranges (read_row e))
      (other_read p c ranges) (in_turn es) (others_absent absent))

  pub rows_none : (at : ℕ) → kept_at (p, c) es ≡ None →
      rows_of conferences es ≡ read_at p c at (rows_of conferences es)
  unfolding rows_of
  rows_none at absent =
      two_maps (row_of conferences) (with_moment p c at) (row_of conferences) (in_turn es)
      (all_weaker (λ e. same_key (p, c) e.0 ≡ false)
      (λ e. row_of conferences e ≡ with_moment p c at (row_of conferences e))
      (other_row conferences p c at) (in_turn es) (others_absent absent))

  pub reads_none : (fs : List Entry) → kept_at (p, c) es ≡ None → fs ≡ es →
      reads_of fs ≡ without_reader p c (reads_of es)
  unfolding reads_of
  reads_none fs absent same =
      ap reads_of same
      ∙ sym (reads_but p c (in_turn es)
      ∙ ap (map read_row) (filter-others (p, c) (in_turn es) (others_absent absent)))

  -- ---- after a change

  pub reads_joined : (fs : List Entry) (new : Kept) → Joins es fs next p c new →
      reads_of fs ≡ with_reader p c (reads_of es)
  unfolding reads_of
  reads_joined fs new joins =
      ap (map read_row) (joined es fs next conferences persons p c new table joins)
      ∙ map-append read_row (in_turn es) (((p, c), new) ∷ [])
      ∙ (λ i. map read_row (in_turn es) ++ record { person = p; conference = c; ranges = joins.unread i } ∷ [])
      ∙ sym (ap (λ b. cond b (reads_of es) (reads_of es ++ the_read p c [] ∷ [])) (any_there ∙ ap is_some joins.absent))

  pub reads_left : (fs : List Entry) → Leaves es fs p c → reads_of fs ≡ without_reader p c (reads_of es)
  unfolding reads_of
  reads_left fs leaves =
      ap (map read_row) (left es fs next conferences persons p c table leaves) ∙ sym (reads_but p c (in_turn es))

  module _ (fs : List Entry) (old new : Kept) (renews : Renews es fs p c old new) where
    pub reads_stay : new.read ≡ old.read → reads_of fs ≡ with_reader p c (reads_of es)
    unfolding reads_of
    reads_stay same =
        each_entry es fs next conferences persons p c old new table renews read_row read_row
        (ap (λ (read : ReadSet). the_read p c (ranges_of read.numbers)) same) (λ e other. refl)
        ∙ sym (ap (λ b. cond b (reads_of es) (reads_of es ++ the_read p c [] ∷ []))
        (any_there ∙ ap is_some renews.there))

    pub reads_set : reads_of fs ≡ with_read p c (ranges_of new.read.numbers) (reads_of es)
    unfolding reads_of
    reads_set =
        each_entry es fs next conferences persons p c old new table renews read_row
        (λ e. with_ranges p c (ranges_of new.read.numbers) (read_row e))
        (sym (ap (λ b. cond b (the_read p c (ranges_of new.read.numbers)) (read_row ((p, c), old)))
        (tells_read p c ((p, c), old) ∙ own_key p c)))
        (other_read p c (ranges_of new.read.numbers))
        ∙ sym (map-map (with_ranges p c (ranges_of new.read.numbers)) read_row (in_turn es))

  pub rows_read : (fs : List Entry) (old : Kept) (at : ℕ) (read : ReadSet) →
      Renews es fs p c old (kept_with_read at read old) →
      rows_of conferences fs ≡ read_at p c at (rows_of conferences es)
  unfolding rows_of
  rows_read fs old at read renews =
      each_entry es fs next conferences persons p c old (kept_with_read at read old) table renews (row_of conferences)
      (λ e. with_moment p c at (row_of conferences e))
      (sym (ap (λ b. cond b (record (row_of conferences ((p, c), old)) { last_time_read = at })
      (row_of conferences ((p, c), old)))
      (tells_membership conferences p c ((p, c), old) ∙ own_key p c)))
      (other_row conferences p c at)
      ∙ sym (map-map (with_moment p c at) (row_of conferences) (in_turn es))
