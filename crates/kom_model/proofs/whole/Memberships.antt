-- Memberships that are set, read or taken away stay whole.
use Rattle.std.proofs.Common.{◌≡◌, ℕ, ◌+◌, ◌-◌, ◌<◌, Bool, true, false, cond, not, ◌==◌, ◌||◌, ◌&&◌, List, [], ◌∷◌}
use Rattle.std.proofs.Common.{◌++◌, length, Option, Some, None, refl, ap, sym, ◌∙◌, arith, inl, inr, subst, nat_lt}
use Rattle.std.proofs.Common.{eqb-true, true≢false}
use Rattle.std.specs.Prelude.{map, min, is_some, is_none, nat_le}
use Rattle.std.specs.List.{AllByRecursion, filter, find, list_any}
use Rattle.std.proofs.lemmas.Bool.{cases_Bool, and_parts, ltb-true}
use Rattle.kom_types.specs.declared.limits.TheConstants.{MOST_MEMBERSHIPS}
use Rattle.kom_types.specs.declared.conferences.ConferenceRow.{ConferenceRow}
use Rattle.kom_types.specs.declared.memberships.MembershipRow.{MembershipRow}
use Rattle.kom_types.specs.declared.memberships.ReadRange.{ReadRange}
use Rattle.kom_types.specs.declared.persons.PersonRow.{PersonRow}
use Rattle.kom_types.specs.tables.Memberships.{is_membership, membership_of, closed_up, with_gap, at_place, by_position}
use Rattle.kom_types.specs.tables.Memberships.{memberships_of, count_of, with_membership, without_membership}
use Rattle.kom_types.specs.tables.Memberships.{with_new, set_again, replaced_by}
use Rattle.read_ranges.specs.Reads.{ReadRow, is_read_of, with_reader, without_reader, with_read, read_at}
use Rattle.kom_model.specs.Whole.{AreMemberships, RiseApart, key_of, read_key_of, has_person, has_conference}
use Rattle.kom_model.proofs.whole.Counts.{all-kept, all-more, all-picked, none-found, count-none, count-placed}
use Rattle.kom_model.proofs.whole.Pairs.{ArePairs, is_pair, is_of, all-keyed, all-unkeyed, filter-keyed, count-keyed}
use Rattle.kom_model.proofs.whole.Pairs.{keyed-more, keyed-mapped, pairs-kept, pairs-more}

-- a change that leaves the person and the conference of a row
same-key : {X : Type 0} (key : X → ℕ × ℕ) (pick : Bool) (changed row : X) → key changed ≡ key row →
    key (cond pick changed row) ≡ key row
same-key key true changed row same = same
same-key key false changed row same = refl

pub keys-closed : (person place : ℕ) (rows : List MembershipRow) →
    map key_of (closed_up person place rows) ≡ map key_of rows
keys-closed person place rows = keyed-mapped key_of
    (λ row. cond (row.person == person && nat_lt place row.position) (at_place (row.position - 1) row) row)
    (λ row. same-key key_of (row.person == person && nat_lt place row.position) _ row refl) rows

keys-opened : (person place : ℕ) (rows : List MembershipRow) →
    map key_of (with_gap person place rows) ≡ map key_of rows
keys-opened person place rows = keyed-mapped key_of
    (λ row. cond (row.person == person && nat_le place row.position) (at_place (row.position + 1) row) row)
    (λ row. same-key key_of (row.person == person && nat_le place row.position) _ row refl) rows

keys-replaced : (given : MembershipRow) (rows : List MembershipRow) →
    map key_of (replaced_by given rows) ≡ map key_of rows
keys-replaced given rows = keyed-mapped key_of
    (λ row. cond (is_membership given.person given.conference row) given row) here rows where
      here : (row : MembershipRow) →
          key_of (cond (is_membership given.person given.conference row) given row) ≡ key_of row
      here row = elim (cases_Bool (is_membership given.person given.conference row)) [
        | inl is ↦
            let parts = and_parts (row.person == given.person) (row.conference == given.conference) is in
            let one : row.person ≡ given.person = eqb-true _ _ parts.0 in
            let other : row.conference ≡ given.conference = eqb-true _ _ parts.1 in
            rw is (λ i. (sym one i, sym other i))
        | inr apart ↦ rw apart refl
      ]

keys-read : (person conference at : ℕ) (rows : List MembershipRow) →
    map key_of (read_at person conference at rows) ≡ map key_of rows
keys-read person conference at rows = keyed-mapped key_of
    (λ row. cond (is_membership person conference row) (record row { last_time_read = at }) row)
    (λ row. same-key key_of (is_membership person conference row) _ row refl) rows

keys-ranges : (person conference : ℕ) (ranges : List ReadRange) (reads : List ReadRow) →
    map read_key_of (with_read person conference ranges reads) ≡ map read_key_of reads
keys-ranges person conference ranges reads = keyed-mapped read_key_of
    (λ row. cond (is_read_of person conference row) (record row { ranges = ranges }) row)
    (λ row. same-key read_key_of (is_read_of person conference row) _ row refl) reads

-- whether a row of a key is there, by the keys
any-keyed : {X : Type 0} (key : X → ℕ × ℕ) (test : ℕ × ℕ → Bool) (rows : List X) →
    list_any (λ row. test (key row)) rows ≡ list_any test (map key rows)
any-keyed key test [] = refl
any-keyed key test (row ∷ rows) = ap (λ rest. test (key row) || rest) (any-keyed key test rows)

any-found : {X : Type 0} (test : X → Bool) (rows : List X) → list_any test rows ≡ is_some (find test rows)
any-found test [] = refl
any-found test (row ∷ rows) = elim (cases_Bool (test row)) [
  | inl here ↦ rw here refl
  | inr there ↦ rw there (any-found test rows)
]

none-some : {X : Type 0} (found : Option X) → found ≡ None → is_none found ≡ true
none-some found none = rw none refl

-- a person's memberships by their places are as many as they are
placed-more : (row : MembershipRow) (rows : List MembershipRow) → length (by_position row rows) ≡ length rows + 1
placed-more row [] = refl
placed-more row (first ∷ rows) =
    let rest : length (by_position row rows) ≡ length rows + 1 = placed-more row rows in
    elim (cases_Bool (nat_lt row.position first.position)) [
      | inl before ↦ rw before (omega arith)
      | inr after ↦ rw after (omega arith)
    ]

pub count-memberships : (person : ℕ) (rows : List MembershipRow) →
    length (memberships_of person rows) ≡ count_of person rows
count-memberships person rows =
    let all = count-placed by_position placed-more (filter (λ row. row.person == person) rows) [] in
    omega (arith, all)

module _ (persons : List PersonRow) (conferences : List ConferenceRow) where
  abbrev Pairs : List (ℕ × ℕ) → Type 0
  Pairs keys = ArePairs keys (has_person persons) (has_conference conferences) MOST_MEMBERSHIPS

  pairs-of : (rows : List MembershipRow) (reads : List ReadRow) → AreMemberships rows reads persons conferences →
      Pairs (map key_of rows)
  pairs-of rows reads whole = record {
    first_there = all-keyed key_of (λ key. has_person persons key.0 ≡ true) rows whole.person_there;
    second_there = all-keyed key_of (λ key. has_conference conferences key.1 ≡ true) rows whole.conference_there;
    once = λ person conference.
        let once = whole.once person conference in let same = count-keyed key_of (is_pair person conference) rows in
        omega (arith, once, same);
    limited = λ person.
        let limited = whole.limited person in let same = count-keyed key_of (is_of person) rows in
        omega (arith, limited, same);
  }

  of-pairs : (rows : List MembershipRow) (reads : List ReadRow) → Pairs (map key_of rows) →
      map read_key_of reads ≡ map key_of rows → AllByRecursion (λ row. RiseApart 1 row.ranges) reads →
      AreMemberships rows reads persons conferences
  of-pairs rows reads pairs kept ranges = record {
    person_there = all-unkeyed key_of (λ key. has_person persons key.0 ≡ true) rows pairs.first_there;
    conference_there = all-unkeyed key_of (λ key. has_conference conferences key.1 ≡ true) rows pairs.second_there;
    once = λ person conference.
        let once = pairs.once person conference in let same = count-keyed key_of (is_pair person conference) rows in
        omega (arith, once, same);
    limited = λ person.
        let limited = pairs.limited person in let same = count-keyed key_of (is_of person) rows in
        omega (arith, limited, same);
    kept = kept;
    ranges = ranges;
  }

  module _ (rows : List MembershipRow) (reads : List ReadRow)
      (whole : AreMemberships rows reads persons conferences) where
    -- the reader of a membership is there where the membership is
    reader-there : (person conference : ℕ) →
        list_any (is_read_of person conference) reads ≡ is_some (membership_of person conference rows)
    reader-there person conference =
        any-keyed read_key_of (is_pair person conference) reads
        ∙ ap (λ keys. list_any (is_pair person conference) keys) whole.kept
        ∙ sym (any-keyed key_of (is_pair person conference) rows)
        ∙ any-found (is_membership person conference) rows

    -- the same pairs
    again : (new : List MembershipRow) (reads' : List ReadRow) → map key_of new ≡ map key_of rows →
        map read_key_of reads' ≡ map read_key_of reads → AllByRecursion (λ row. RiseApart 1 row.ranges) reads' →
        AreMemberships new reads' persons conferences
    again new reads' same same' ranges = of-pairs new reads' (subst Pairs (sym same) (pairs-of rows reads whole))
        (same' ∙ whole.kept ∙ sym same) ranges

    pub memberships-read : (person conference at : ℕ) (ranges : List ReadRange) → RiseApart 1 ranges →
        AreMemberships (read_at person conference at rows) (with_read person conference ranges reads) persons
        conferences
    memberships-read person conference at ranges rise = again (read_at person conference at rows)
        (with_read person conference ranges reads) (keys-read person conference at rows)
        (keys-ranges person conference ranges reads)
        (all-picked (λ row. RiseApart 1 row.ranges) (λ row. RiseApart 1 row.ranges) (is_read_of person conference)
        (λ row. record row { ranges = ranges }) (λ row is here. rise) (λ row here. here) reads whole.ranges)

    pub memberships-gone : (person conference : ℕ) → is_some (membership_of person conference rows) ≡ true →
        AreMemberships (without_membership person conference rows) (without_reader person conference reads) persons
        conferences
    memberships-gone person conference there = by (membership_of person conference rows) there
      where
        keep : ℕ × ℕ → Bool
        keep key = not (is_pair person conference key)

        left : List MembershipRow
        left = filter (λ row. not (is_membership person conference row)) rows

        by : (found : Option MembershipRow) → is_some found ≡ true →
            AreMemberships (elim found [
              | None ↦ rows
              | Some row ↦ closed_up person row.position
                  (filter (λ row. not (is_membership person conference row)) rows)
            ]) (without_reader person conference reads)
            persons conferences
        by None is = absurd (true≢false (sym is))
        by (Some row) is =
            let keys : map key_of (closed_up person row.position
            (filter (λ row. not (is_membership person conference row)) rows))
            ≡ filter (λ key. not (is_pair person conference key)) (map key_of rows) =
            keys-closed person row.position _
            ∙ sym (filter-keyed key_of (λ key. not (is_pair person conference key)) rows) in
            of-pairs _ _ (subst Pairs (sym keys) (pairs-kept (has_person persons) (has_conference conferences)
            MOST_MEMBERSHIPS (λ key. not (is_pair person conference key)) (map key_of rows)
            (pairs-of rows reads whole)))
            (sym (filter-keyed read_key_of (λ key. not (is_pair person conference key)) reads)
            ∙ ap (filter (λ key. not (is_pair person conference key))) whole.kept ∙ sym keys)
            (all-kept (λ row. RiseApart 1 row.ranges) (λ row. not
            (is_read_of person conference row)) reads whole.ranges)

    pub memberships-set : (given : MembershipRow) → has_person persons given.person ≡ true →
        has_conference conferences given.conference ≡ true →
        (is_some (membership_of given.person given.conference rows)
        || nat_lt (length (memberships_of given.person rows)) MOST_MEMBERSHIPS) ≡ true →
        AreMemberships (with_membership given rows) (with_reader given.person given.conference reads) persons
        conferences
    memberships-set given person conference room =
        by (membership_of given.person given.conference rows) refl
      where
        by : (found : Option MembershipRow) → membership_of given.person given.conference rows ≡ found →
            AreMemberships (elim found [ None ↦ with_new given rows | Some old ↦ set_again given old rows ])
            (with_reader given.person given.conference reads) persons conferences
        by None found =
            let place : ℕ = min given.position (count_of given.person rows) in
            let none : list_any (is_read_of given.person given.conference) reads ≡ false =
            reader-there given.person given.conference ∙ ap is_some found in
            let apart : length (filter (is_pair given.person given.conference) (map key_of rows)) ≡ 0 =
            count-keyed key_of (is_pair given.person given.conference) rows
            ∙ count-none (is_membership given.person given.conference) rows
            (none-found (is_membership given.person given.conference) rows (none-some _ found)) in
            let few : nat_lt (length (memberships_of given.person rows)) MOST_MEMBERSHIPS ≡ true =
            rw found at room in
            let free : length (filter (is_of given.person) (map key_of rows)) < MOST_MEMBERSHIPS =
            let less = ltb-true _ _ few in let same = count-memberships given.person rows in
            let keyed = count-keyed key_of (is_of given.person) rows in
            omega (arith, less, same, keyed) in
            let keys : map key_of (with_new given rows) ≡ map key_of rows ++ (given.person, given.conference) ∷ [] =
            keyed-more key_of (with_gap given.person place rows) (at_place place given)
            ∙ ap (λ keys. keys ++ (given.person, given.conference) ∷ []) (keys-opened given.person place rows) in
            rw none (of-pairs _ _ (subst Pairs (sym keys) (pairs-more (has_person persons) (has_conference conferences)
            MOST_MEMBERSHIPS given.person given.conference (map key_of rows) person conference apart free
            (pairs-of rows reads whole)))
            (keyed-more read_key_of reads _ ∙ ap (λ keys. keys ++ (given.person, given.conference) ∷ []) whole.kept
            ∙ sym keys)
            (all-more (λ row. RiseApart 1 row.ranges) reads _ whole.ranges tt))
        by (Some old) found =
            let some : list_any (is_read_of given.person given.conference) reads ≡ true =
            reader-there given.person given.conference ∙ ap is_some found in
            rw some (again (set_again given old rows) reads
            (keys-replaced _ _ ∙ keys-opened given.person _ _ ∙ keys-closed given.person old.position rows) refl
            whole.ranges)
