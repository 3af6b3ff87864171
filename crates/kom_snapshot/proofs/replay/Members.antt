-- The memberships of a snapshot come again, with what was read of each: after some of them each stands at the place
-- that counts those of its person, among these, at lower places.
use Rattle.std.proofs.Common.{◌≡◌, ◌<◌, ◌≤◌, ◌+◌, ⊎_elim, ℕ, Bool, true, false, cond, ◌==◌, ◌&&◌, List, [], ◌∷◌}
use Rattle.std.proofs.Common.{◌++◌, length, refl, sym, ◌∙◌, ap, subst, arith, append_assoc, Option, Some, None, min}
use Rattle.std.proofs.Common.{inl, inr}
use Rattle.std.specs.Prelude.{map, nat_le, is_none, is_some}
use Rattle.std.specs.List.{AllByRecursion, filter, find, list_any}
use Rattle.std.proofs.lemmas.Bool.{or_right, and_from, cases_Bool, cases_eq, cases_lt, ne_eqb, eq-eqb, lt-ltb}
use Rattle.std.proofs.lemmas.Bool.{le-ltb, le-leb, lt-leb}
use Rattle.std.proofs.lemmas.List.{map-append, append-nil}
use Rattle.row_table.specs.Tables.{row_of}
use Rattle.kom_types.specs.declared.limits.TheConstants.{MOST_MEMBERSHIPS}
use Rattle.kom_types.specs.declared.conferences.ConferenceRow.{ConferenceRow}
use Rattle.kom_types.specs.declared.effects.Effect.TheVariants as effect
use Rattle.kom_types.specs.declared.memberships.MembershipRow.{MembershipRow}
use Rattle.kom_types.specs.declared.memberships.ReadRange.{ReadRange}
use Rattle.kom_types.specs.declared.persons.PersonRow.{PersonRow}
use Rattle.kom_types.specs.tables.Conferences.{number_of_conference}
use Rattle.kom_types.specs.tables.Memberships as Memberships
use Rattle.kom_types.specs.tables.Memberships.{is_membership, with_gap, count_of, at_place, with_membership, with_new}
use Rattle.kom_types.specs.tables.Memberships.{set_again}
use Rattle.kom_types.specs.tables.Persons.{number_of_person}
use Rattle.read_ranges.specs.Changed.{rise_after}
use Rattle.read_ranges.specs.Merged.{merge_all, with_range}
use Rattle.read_ranges.specs.Reads.{ReadRow, is_read_of, with_reader, with_read, read_at, read_of}
use Rattle.kom_model.specs.Db.{Db, person_of, conference_of, membership_of, memberships_of}
use Rattle.kom_model.specs.Effects.{fits, after_effect}
use Rattle.kom_model.specs.Whole.{AreMemberships, RiseApart, has_person, has_conference, key_of, read_key_of}
use Rattle.kom_model.proofs.whole.Counts.{all-along, all-mapped, all-of, none-found}
use Rattle.kom_model.proofs.whole.Memberships.{count-memberships}
use Rattle.kom_model.proofs.whole.Pairs.{is_pair, count-keyed}
use Rattle.kom_snapshot.specs.Listed.{ArePlaced, is_at}
use Rattle.kom_snapshot.specs.Snap.{is_before, rank, membership_effects, membership_list}
use Rattle.kom_snapshot.proofs.Counting.{count-append, count-changed, count-cons, one_if}
use Rattle.kom_snapshot.proofs.Rising.{all-found}
use Rattle.kom_snapshot.proofs.replay.Ranks.{before, not_before, of_other, no_fewer, more_than, rank_placed}
use Rattle.kom_snapshot.proofs.replay.Ranks.{once_placed}
use Rattle.kom_snapshot.proofs.replay.Replaying.{Replays, replays-none, replays-one, replays-cons, replays-append}
use Rattle.kom_snapshot.proofs.replay.Tables.{all-at, all-turned, find-first, none-before, room-before, same-mapped}

-- ---- lists of which only the last row passes a test
module _ {X : Type 0} (test : X → Bool) where
  any-none : (rows : List X) → AllByRecursion (λ row. test row ≡ false) rows → list_any test rows ≡ false
  any-none [] none = refl
  any-none (row ∷ rows) none = let first : test row ≡ false = none.0 in rw (first, any-none rows none.1) refl

  find-none : (rows : List X) → AllByRecursion (λ row. test row ≡ false) rows → find test rows ≡ None
  find-none [] none = refl
  find-none (row ∷ rows) none = let first : test row ≡ false = none.0 in rw first (find-none rows none.1)

  find-last : (rows : List X) (last : X) → test last ≡ true → is_some (find test (rows ++ last ∷ [])) ≡ true
  find-last [] last passes = rw passes refl
  find-last (row ∷ rows) last passes = elim (cases_Bool (test row)) [
    | inl here ↦ rw here refl
    | inr there ↦ rw there (find-last rows last passes)
  ]

  last-changed : (change : X → X) (rows : List X) (last : X) → AllByRecursion (λ row. test row ≡ false) rows →
      test last ≡ true →
      map (λ row. cond (test row) (change row) row) (rows ++ last ∷ []) ≡ rows ++ change last ∷ []
  last-changed change [] last none passes = rw passes refl
  last-changed change (row ∷ rows) last none passes =
      let first : test row ≡ false = none.0 in
      rw first (ap (λ (l : List X). row ∷ l) (last-changed change rows last none.1 passes))

-- ---- ranks
-- each row at its rank among all
abbrev pub ranked : List MembershipRow → List MembershipRow → List MembershipRow
ranked all rows = map (λ row. at_place (rank row all) row) rows

-- the other row is another membership, and not at the same place of the person
record IsApart (row other : MembershipRow) : Type 0 where
  pub another : is_membership row.person row.conference other ≡ false
  pub elsewhere : is_at row.person row.position other ≡ false

-- no more stand before it than its person has
within : (row : MembershipRow) (all rows : List MembershipRow)
    → rank row rows ≤ count_of row.person (ranked all rows)
within row all [] = omega arith
within row all (other ∷ rows) =
    let rest = within row all rows in
    let one = count-cons (is_before row) other rows in
    let many = count-cons (λ (one : MembershipRow). one.person == row.person) (at_place (rank other all) other)
    (ranked all rows) in
    let less : one_if (is_before row other) ≤ one_if (other.person == row.person) = ⊎_elim
    (λ (is : other.person ≡ row.person). rw (eq-eqb other.person row.person is)
    (⊎_elim (λ (lower : other.position < row.position). rw (lt-ltb other.position row.position lower) (omega arith))
    (λ (higher : row.position ≤ other.position). rw (le-ltb other.position row.position higher) (omega arith))
    (cases_lt other.position row.position)))
    (λ (differs : other.person ≡ row.person → ⊥). rw (ne_eqb other.person row.person differs) (omega arith))
    (cases_eq other.person row.person) in
    omega (arith, rest, one, many, less)

-- one more row at its rank moves exactly those up that stand higher
moved_one : (row other : MembershipRow) (front back : List MembershipRow) → IsApart row other
    → (let all = front ++ other ∷ back in
    cond (other.person == row.person && nat_le (rank row all) (rank other all))
    (at_place (rank other all + 1) other) (at_place (rank other all) other)
    ≡ at_place (rank other (all ++ row ∷ [])) other)
moved_one row other front back apart =
    let all = front ++ other ∷ back in
    let more : rank other (all ++ row ∷ []) ≡ rank other all + one_if (is_before other row) =
    omega (arith, count-append (is_before other) all (row ∷ []), count-cons (is_before other) row []) in
    ⊎_elim
    (λ (is : other.person ≡ row.person). ⊎_elim
    (λ (lower : row.position < other.position).
    let up = no_fewer row other all (sym is) (omega (arith, lower)) in
    rw (
      more,
      before other row (sym is) lower,
      eq-eqb other.person row.person is,
      le-leb (rank row all) (rank other all) up,
    ) refl)
    (λ (higher : other.position ≤ row.position).
    let below : other.position < row.position =
    ⊎_elim (λ (same : other.position ≡ row.position).
    let there : (true && true) ≡ false =
    rw (eq-eqb other.person row.person is, eq-eqb other.position row.position same) at apart.elsewhere in
    absurd (cc))
    (λ (differs : other.position ≡ row.position → ⊥). omega (arith, higher, differs))
    (cases_eq other.position row.position) in
    let down = more_than other row front back is below in
    rw (
      more,
      not_before other row (sym is) higher,
      eq-eqb other.person row.person is,
      lt-leb (rank row all) (rank other all) down,
    ) (ap (λ (n : ℕ). at_place n other) (omega arith)))
    (cases_lt row.position other.position))
    (λ (differs : other.person ≡ row.person → ⊥).
    rw (more, of_other other row (λ is. differs (sym is)), ne_eqb other.person row.person differs)
    (ap (λ (n : ℕ). at_place n other) (omega arith)))
    (cases_eq other.person row.person)

both : {X : Type 0} {one other : X} {xs ys : List X} → one ≡ other → xs ≡ ys → one ∷ xs ≡ other ∷ ys
both same rest = λ i. same i ∷ rest i

moved : (row : MembershipRow) (front back : List MembershipRow) → AllByRecursion (IsApart row) back
    → (let all = front ++ back in
    with_gap row.person (rank row all) (ranked all back) ≡ ranked (all ++ row ∷ []) back)
moved row front [] apart = refl
moved row front (other ∷ back) apart =
    let P : List MembershipRow → Type 0 = λ all.
    with_gap row.person (rank row all) (ranked all back) ≡ ranked (all ++ row ∷ []) back in
    let rest : P (front ++ other ∷ back) =
    subst P (append_assoc front (other ∷ []) back) (moved row (front ++ other ∷ []) back apart.1) in
    both (moved_one row other front back apart.0) rest

-- so many rows of a person as before
ranked-count : (person : ℕ) (all rows : List MembershipRow) → count_of person (ranked all rows) ≡ count_of person rows
ranked-count person all rows = count-changed (λ row. row.person == person) (λ row. row.person == person)
    (λ row. at_place (rank row all) row) rows (all-of _ (λ row. refl) rows)

-- one that is not there is set after the others
set_new : (given : MembershipRow) (table : List MembershipRow)
    → Memberships.membership_of given.person given.conference table ≡ None
    → with_membership given table ≡ with_new given table
set_new given table none =
    subst (λ (o : Option MembershipRow). elim o [
      | None ↦ with_new given table
      | Some old ↦ set_again given old table
    ] ≡ with_new given table) (sym none) refl

-- a membership that was just set has been read when it was added
abbrev unread : MembershipRow → MembershipRow
unread row = record row { last_time_read = row.added_at }

-- rows of another key are so at their ranks
others : (row : MembershipRow) (all rows : List MembershipRow) → AllByRecursion (IsApart row) rows
    → AllByRecursion (λ one. is_membership row.person row.conference one ≡ false) (ranked all rows)
others row all rows apart = all-mapped (IsApart row)
    (λ one. is_membership row.person row.conference one ≡ false) (λ one. at_place (rank one all) one)
    (λ one here. here.another) rows apart

step : (row : MembershipRow) (rows : List MembershipRow) → AllByRecursion (IsApart row) rows
    → with_membership (at_place (rank row rows) (unread row)) (ranked rows rows)
    ≡ ranked (rows ++ row ∷ []) rows ++ at_place (rank row rows) (unread row) ∷ []
step row rows apart =
    let there : min (rank row rows) (count_of row.person (ranked rows rows)) ≡ rank row rows =
    omega (arith, within row rows rows) in
    set_new (at_place (rank row rows) (unread row)) (ranked rows rows)
    (find-none (is_membership row.person row.conference) (ranked rows rows) (others row rows rows apart))
    ∙ ap (λ (n : ℕ). with_gap row.person n (ranked rows rows) ++ at_place n (unread row) ∷ []) there
    ∙ ap (λ (l : List MembershipRow). l ++ at_place (rank row rows) (unread row) ∷ []) (moved row [] rows apart)

ranked_more : (row : MembershipRow) (rows : List MembershipRow) →
    ranked (rows ++ row ∷ []) rows ++ at_place (rank row rows) row ∷ []
    ≡ ranked (rows ++ row ∷ []) (rows ++ row ∷ [])
ranked_more row rows =
    let itself : one_if (is_before row row) ≡ 0 = rw (not_before row row refl (omega arith)) refl in
    let own : rank row (rows ++ row ∷ []) ≡ rank row rows =
    omega (arith, count-append (is_before row) rows (row ∷ []), count-cons (is_before row) row [], itself) in
    ap (λ (n : ℕ). ranked (rows ++ row ∷ []) rows ++ at_place n row ∷ []) (sym own)
    ∙ sym (map-append (λ (r : MembershipRow). at_place (rank r (rows ++ row ∷ [])) r) rows (row ∷ []))

-- ---- ranges that rise and do not touch are as they are when those that touch are made one
merged-same : (least : ℕ) (ranges : List ReadRange) → RiseApart least ranges → merge_all ranges ≡ ranges
merged-same least [] rise = refl
merged-same least (one ∷ []) rise = refl
merged-same least (one ∷ next ∷ ranges) rise =
    let rest : merge_all (next ∷ ranges) ≡ next ∷ ranges = merged-same (one.last + 2) (next ∷ ranges) rise.2 in
    let after : one.last + 2 ≤ next.first = rise.2.0 in
    ap (with_range one) rest
    ∙ rw (ne_eqb next.first (one.last + 1) (λ e. omega (arith, e, after))) refl

rises : (end : ℕ) (ranges : List ReadRange) → RiseApart (end + 1) ranges → rise_after end ranges ≡ true
rises end [] rise = refl
rises end (one ∷ ranges) rise =
    let first : end + 1 ≤ one.first = rise.0 in
    and_from _ _ (and_from _ _ (lt-ltb end one.first (omega (arith, first))) (le-leb one.first one.last rise.1))
    (rises one.last ranges (weaker (one.last + 2) (one.last + 1) ranges (omega arith) rise.2))
  where
    weaker : (more less : ℕ) (ranges : List ReadRange) → less ≤ more → RiseApart more ranges → RiseApart less ranges
    weaker more less [] least rise = tt
    weaker more less (one ∷ ranges) least rise =
        let first : more ≤ one.first = rise.0 in (omega (arith, least, first), rise.1, rise.2)

-- what was read of a membership is so
found-rises : (reads : List ReadRow) → AllByRecursion (λ row. RiseApart 1 row.ranges) reads →
    (person conference : ℕ) → RiseApart 1 (read_of person conference reads)
found-rises reads rise person conference = by (find (is_read_of person conference) reads)
    (λ row found. all-found (λ row. RiseApart 1 row.ranges) (is_read_of person conference) reads row rise found)
  where
    by : (found : Option ReadRow) → ((row : ReadRow) → found ≡ Some row → RiseApart 1 row.ranges) →
        RiseApart 1 (elim found [ None ↦ [] | Some row ↦ row.ranges ])
    by None each = tt
    by (Some row) each = each row refl

-- ---- the table
module _ (all : List MembershipRow) (reads : List ReadRow) (persons : List PersonRow)
    (conferences : List ConferenceRow) (whole : AreMemberships all reads persons conferences) (placed : ArePlaced all)
    (db : Db)
    (person_there : (person : ℕ) → has_person persons person ≡ true →
    is_some (row_of number_of_person person db.persons) ≡ true)
    (conference_there : (number : ℕ) → has_conference conferences number ≡ true →
    is_some (row_of number_of_conference number db.conferences) ≡ true) where
  -- what was read of a membership
  abbrev read_row : MembershipRow → ReadRow
  read_row row = record {
    person = row.person;
    conference = row.conference;
    ranges = read_of row.person row.conference reads;
  }

  abbrev state : List MembershipRow → List ReadRow → Db
  state rows read = record db { memberships = rows; reads = read }

  abbrev after : List MembershipRow → Db
  after front = state (ranked front front) (map read_row front)

  module _ (front : List MembershipRow) (row : MembershipRow) (rest : List MembershipRow)
      (same : front ++ row ∷ rest ≡ all) where
    at : (P : MembershipRow → Type 0) → AllByRecursion P all → P row
    at P holds = all-at P front row rest (subst (AllByRecursion P) (sym same) holds)

    apart : AllByRecursion (IsApart row) front
    apart = all-along (λ one. is_membership row.person row.conference one ≡ false)
        (λ one. is_at row.person row.position one ≡ false) (IsApart row)
        (λ one here there. record { another = here; elsewhere = there }) front
        (none-found _ front (ap is_none (none-before (is_membership row.person row.conference) front row rest
        (subst (λ l. length (filter (is_membership row.person row.conference) l) ≤ 1) (sym same)
        (whole.once row.person row.conference))
        (and_from _ _ (eq-eqb row.person row.person refl) (eq-eqb row.conference row.conference refl)))))
        (none-found _ front (ap is_none (none-before (is_at row.person row.position) front row rest
        (once_placed (front ++ row ∷ rest) (subst ArePlaced (sym same) placed) row.person row.position)
        (and_from _ _ (eq-eqb row.person row.person refl) (eq-eqb row.position row.position refl)))))

    key : is_membership row.person row.conference row ≡ true
    key = and_from _ _ (eq-eqb row.person row.person refl) (eq-eqb row.conference row.conference refl)

    -- it is set, and then what was read of it
    abbrev front_after : List MembershipRow
    front_after = ranked (front ++ row ∷ []) front

    abbrev unread_row : ReadRow
    unread_row = record { person = row.person; conference = row.conference; ranges = [] }

    abbrev between : Db
    between = state (front_after ++ at_place (rank row front) (unread row) ∷ [])
        (map read_row front ++ unread_row ∷ [])

    others_read : AllByRecursion (λ one. is_read_of row.person row.conference one ≡ false) (map read_row front)
    others_read = all-turned (IsApart row) (λ one. is_read_of row.person row.conference one ≡ false) read_row
        (λ one here. here.another) front apart

    set_fits : fits (effect.MemberSet row.person row.conference (rank row front) row.priority row.added_by
        row.added_at row.kind) (after front) ≡ true
    unfolding fits person_of conference_of membership_of memberships_of
    set_fits =
        let few = room-before (λ one. one.person == row.person) MOST_MEMBERSHIPS front row rest
        (subst (λ l. count_of row.person l ≤ MOST_MEMBERSHIPS) (sym same) (whole.limited row.person))
        (eq-eqb row.person row.person refl) in
        let sorted = count-memberships row.person (ranked front front) in
        let kept = ranked-count row.person front front in
        and_from _ _ (and_from _ _
        (person_there row.person (at (λ row. has_person persons row.person ≡ true) whole.person_there))
        (conference_there row.conference (at (λ row. has_conference conferences row.conference ≡ true)
        whole.conference_there)))
        (or_right _ _ (lt-ltb (length (Memberships.memberships_of row.person (ranked front front)))
        MOST_MEMBERSHIPS (omega (arith, few, sorted, kept))))

    set_makes : after_effect (effect.MemberSet row.person row.conference (rank row front) row.priority row.added_by
        row.added_at row.kind) (after front) ≡ between
    unfolding after_effect
    set_makes =
        let members = step row front apart in
        let read : with_reader row.person row.conference (map read_row front) ≡ map read_row front ++ unread_row ∷ [] =
        rw (any-none (is_read_of row.person row.conference) (map read_row front) others_read) refl in
        λ i. state (members i) (read i)

    read_fits : fits (effect.ReadSet row.person row.conference row.last_time_read
        (read_of row.person row.conference reads)) between ≡ true
    unfolding fits membership_of
    read_fits = and_from _ _
        (find-last (is_membership row.person row.conference) front_after (at_place (rank row front) (unread row)) key)
        (rises 0 (read_of row.person row.conference reads) (found-rises reads whole.ranges row.person row.conference))

    read_makes : after_effect (effect.ReadSet row.person row.conference row.last_time_read
        (read_of row.person row.conference reads)) between ≡ after (front ++ row ∷ [])
    unfolding after_effect
    read_makes =
        let members : read_at row.person row.conference row.last_time_read
        (front_after ++ at_place (rank row front) (unread row) ∷ []) ≡ ranked (front ++ row ∷ []) (front ++ row ∷ []) =
        last-changed (is_membership row.person row.conference)
        (λ one. record one { last_time_read = row.last_time_read }) front_after
        (at_place (rank row front) (unread row)) (others row (front ++ row ∷ []) front apart) key
        ∙ ranked_more row front in
        let ranges = merged-same 1 (read_of row.person row.conference reads)
        (found-rises reads whole.ranges row.person row.conference) in
        let read : with_read row.person row.conference (merge_all (read_of row.person row.conference reads))
        (map read_row front ++ unread_row ∷ []) ≡ map read_row (front ++ row ∷ []) =
        last-changed (is_read_of row.person row.conference)
        (λ one. record one { ranges = merge_all (read_of row.person row.conference reads) }) (map read_row front)
        unread_row others_read key
        ∙ ap (λ ranges. map read_row front ++ (record unread_row { ranges = ranges }) ∷ []) ranges
        ∙ sym (map-append read_row front (row ∷ [])) in
        λ i. state (members i) (read i)

    one : Replays (membership_effects reads front row) (after front) (after (front ++ row ∷ []))
    one = replays-cons _ _ _ between _ set_fits set_makes (replays-one _ _ _ read_fits read_makes)

  members-after : (front rest : List MembershipRow) → front ++ rest ≡ all →
      Replays (membership_list reads front rest) (after front) (after all)
  members-after front [] same =
      subst (λ rows. Replays [] (after front) (after rows)) (sym (append-nil front) ∙ same) (replays-none (after front))
  members-after front (row ∷ rest) same =
      replays-append (membership_effects reads front row) (membership_list reads (front ++ row ∷ []) rest) _ _ _
      (one front row rest same) (members-after (front ++ row ∷ []) rest (append_assoc front (row ∷ []) rest ∙ same))

  -- in the end each stands at its own place
  in-place : (front rest : List MembershipRow) → front ++ rest ≡ all →
      AllByRecursion (λ row. at_place (rank row all) row ≡ row) rest
  in-place front [] same = tt
  in-place front (row ∷ rest) same = (
    ap (λ n. at_place n row) (subst (λ l. rank row l ≡ row.position) same
        (rank_placed front row rest (subst ArePlaced (sym same) placed))),
    in-place (front ++ row ∷ []) rest (append_assoc front (row ∷ []) rest ∙ same),
  )

  -- and what was read of each is its own
  own-read : (front rest : List ReadRow) → front ++ rest ≡ reads →
      AllByRecursion (λ one. find (is_read_of one.person one.conference) reads ≡ Some one) rest
  own-read front [] same = tt
  own-read front (one ∷ rest) same =
      let test : ReadRow → Bool = is_read_of one.person one.conference in
      let own : test one ≡ true =
      and_from _ _ (eq-eqb one.person one.person refl) (eq-eqb one.conference one.conference refl) in
      let few : length (filter test reads) ≤ 1 =
      let read = count-keyed read_key_of (is_pair one.person one.conference) reads in
      let members = count-keyed key_of (is_pair one.person one.conference) all in
      let equal = ap (λ keys. length (filter (is_pair one.person one.conference) keys)) whole.kept in
      omega (arith, read, members, equal, whole.once one.person one.conference) in
      let none : find test front ≡ None =
      none-before test front one rest (subst (λ l. length (filter test l) ≤ 1) (sym same) few) own in (
        subst (λ l. find test l ≡ Some one) same (find-first test front one rest none own),
        own-read (front ++ one ∷ []) rest (append_assoc front (one ∷ []) rest ∙ same),
      )

  reads-same : (rows : List MembershipRow) (read : List ReadRow) → map read_key_of read ≡ map key_of rows →
      AllByRecursion (λ one. find (is_read_of one.person one.conference) reads ≡ Some one) read →
      map read_row rows ≡ read
  reads-same [] [] keys own = refl
  reads-same [] (one ∷ read) keys own = absurd (cc)
  reads-same (row ∷ rows) [] keys own = absurd (cc)
  reads-same (row ∷ rows) (one ∷ read) keys own =
      let heads : read_key_of one ≡ key_of row = cc in
      let tails : map read_key_of read ≡ map key_of rows = cc in
      let ranges : read_of one.person one.conference reads ≡ one.ranges =
      ap (λ (found : Option ReadRow). elim found [ None ↦ [] | Some row ↦ row.ranges ]) own.0 in
      let first : read_row row ≡ one = ap {B = ReadRow} (λ (key : ℕ × ℕ).
      record { person = key.0; conference = key.1; ranges = read_of key.0 key.1 reads }) (sym heads)
      ∙ ap {B = ReadRow} (λ ranges. record one { ranges = ranges }) ranges in
      both first (reads-same rows read tails own.1)

  pub members-again : Replays (membership_list reads [] all) (state [] []) (state all reads)
  members-again =
      let members : ranked all all ≡ all =
      same-mapped (λ row. at_place (rank row all) row) all (in-place [] all refl) in
      let read : map read_row all ≡ reads = reads-same all reads whole.kept (own-read [] reads refl) in
      subst (λ (db : Db). Replays (membership_list reads [] all) (state [] []) db) (λ i. state (members i) (read i))
      (members-after [] all refl)
