-- How many rows pass a test of their persons, conferences and kinds, after each change of a table.
use Rattle.std.proofs.Common.{◌≡◌, ℕ, ◌+◌, ◌-◌, min, Bool, true, false, cond, not, ◌&&◌, eqb, ltb, leb, List, [], ◌∷◌}
use Rattle.std.proofs.Common.{◌++◌, length, map, filter, fold, Option, Some, None, refl, sym, ◌∙◌, ap, arith}
use Rattle.std.specs.List.{AllByRecursion, IsDistinct}
use Rattle.std.proofs.lemmas.Bool.{eqb-true, and_parts}
use Rattle.std.proofs.lemmas.List.{length-append}
use Rattle.std.proofs.lemmas.List.Elements.{filter-append}
use Rattle.std.proofs.lemmas.Map.Keys.{IsDistinct-head, IsDistinct-tail}
use Rattle.std.proofs.lemmas.Option.{none-some, same_Some}
use Rattle.kom_types.specs.declared.memberships.MembershipRow.{MembershipRow}
use Rattle.kom_types.specs.tables.Memberships.{is_membership, membership_of, by_position, memberships_of, count_of}
use Rattle.kom_types.specs.tables.Memberships.{at_place, closed_up, with_gap, without_membership, with_new, set_again}
use Rattle.kom_types.specs.tables.Memberships.{with_membership}
use Rattle.read_ranges.specs.Reads.{read_at}
use Rattle.memberships.specs.Entries.{same_key}
use Rattle.memberships.specs.Secrets.{one_if}
use Rattle.memberships.proofs.Pairs.{filter-map}
use Rattle.memberships.proofs.Places.{flip_eqb}
use Rattle.memberships.proofs.Rows.{open_row, close_row}

-- ---- lists

module _ {X : Type 0} where
  -- what stands alone among those that pass a test still does when each becomes what passes alike
  alone-map : (test : X → Bool) (f : X → X) → ((x : X) → test (f x) ≡ test x) → (xs : List X) (x : X) →
      filter test xs ≡ x ∷ [] → filter test (map f xs) ≡ f x ∷ []
  alone-map test f same xs x alone =
      filter-map test f xs ∙ (λ i. map f (filter (λ y. same y i) xs)) ∙ ap (map f) alone

  module _ (test : X → Bool) where
    -- how many pass
    abbrev pub passing : List X → ℕ
    passing xs = length (filter test xs)

    -- by the first, by the last, and when each becomes what passes alike
    pub passing-cons : (x : X) (xs : List X) → passing (x ∷ xs) ≡ one_if (test x) + passing xs
    passing-cons x xs =
        elim (test x) as (λ b. length (cond b (x ∷ filter test xs) (filter test xs)) ≡ cond b 1 0 + passing xs) [
          | true ↦ omega arith
          | false ↦ omega arith
        ]

    passing-last : (xs : List X) (x : X) → passing (xs ++ x ∷ []) ≡ passing xs + one_if (test x)
    passing-last xs x =
        omega (
          arith,
          ap length (filter-append test xs (x ∷ [])),
          length-append (filter test xs) (filter test (x ∷ [])),
          passing-cons x [],
        )

    passing-map : (f : X → X) → ((x : X) → test (f x) ≡ test x) → (xs : List X) → passing (map f xs) ≡ passing xs
    passing-map f same [] = refl
    passing-map f same (x ∷ xs) =
        omega (
          arith,
          passing-cons (f x) (map f xs),
          passing-cons x xs,
          ap one_if (same x),
          passing-map f same xs,
        )

    -- those that pass another test too, and those that do not
    passing-split : (other : X → Bool) (xs : List X) →
        passing (filter (λ x. not (other x)) xs) + passing (filter other xs) ≡ passing xs
    passing-split other [] = refl
    passing-split other (x ∷ xs) =
        elim (other x) as
        (λ b. passing (cond (not b) (x ∷ filter (λ y. not (other y)) xs) (filter (λ y. not (other y)) xs))
        + passing (cond b (x ∷ filter other xs) (filter other xs)) ≡ passing (x ∷ xs)) [
          | true ↦ omega (
            arith,
            passing-cons x (filter other xs),
            passing-cons x xs,
            passing-split other xs,
          )
          | false ↦ omega (
            arith,
            passing-cons x (filter (λ y. not (other y)) xs),
            passing-cons x xs,
            passing-split other xs,
          )
        ]

    -- one given in place of each that passes another test
    passing-given : (other : X → Bool) (given : X) (xs : List X) →
        passing (map (λ x. cond (other x) given x) xs) + passing (filter other xs)
        ≡ passing xs + passing (map (λ x. given) (filter other xs))
    passing-given other given [] = refl
    passing-given other given (x ∷ xs) =
        elim (other x) as
        (λ b. passing (cond b given x ∷ map (λ y. cond (other y) given y) xs)
        + passing (cond b (x ∷ filter other xs) (filter other xs))
        ≡ passing (x ∷ xs) + passing (map (λ y. given) (cond b (x ∷ filter other xs) (filter other xs)))) [
          | true ↦ omega (
            arith,
            passing-cons given (map (λ y. cond (other y) given y) xs),
            passing-cons x (filter other xs),
            passing-cons x xs,
            passing-cons given (map (λ y. given) (filter other xs)),
            passing-given other given xs,
          )
          | false ↦ omega (
            arith,
            passing-cons x (map (λ y. cond (other y) given y) xs),
            passing-cons x xs,
            passing-given other given xs,
          )
        ]

    -- where one alone passes another test, and is taken out
    passing-without : (other : X → Bool) (xs : List X) (x : X) → filter other xs ≡ x ∷ [] →
        passing (filter (λ y. not (other y)) xs) + one_if (test x) ≡ passing xs
    passing-without other xs x alone = omega (arith, passing-split other xs, ap passing alone, passing-cons x [])

    -- or has another in its place
    passing-with : (other : X → Bool) (given : X) (xs : List X) (x : X) → filter other xs ≡ x ∷ [] →
        passing (map (λ y. cond (other y) given y) xs) + one_if (test x) ≡ passing xs + one_if (test given)
    passing-with other given xs x alone =
        omega (
          arith,
          passing-given other given xs,
          ap passing alone,
          passing-cons x [],
          ap (λ ys. passing (map (λ y. given) ys)) alone,
          passing-cons given [],
        )

    -- of those that pass another test
    pub passing-filter : (other : X → Bool) (xs : List X) →
        passing (filter other xs) ≡ length (filter (λ x. other x && test x) xs)
    passing-filter other [] = refl
    passing-filter other (x ∷ xs) =
        elim (other x) as
        (λ b. passing (cond b (x ∷ filter other xs) (filter other xs))
        ≡ length (cond (b && test x) (x ∷ filter (λ y. other y && test y) xs) (filter (λ y. other y && test y) xs))) [
          | true ↦ elim (test x) as
              (λ b. length (cond b (x ∷ filter test (filter other xs)) (filter test (filter other xs)))
              ≡ length (cond b (x ∷ filter (λ y. other y && test y) xs) (filter (λ y. other y && test y) xs))) [
                | true ↦ omega (arith, passing-filter other xs)
                | false ↦ passing-filter other xs
              ]
          | false ↦ passing-filter other xs
        ]

-- ---- the row of a person and a conference

-- no row after it is of the same person and conference
none_left : (p c : ℕ) (row : MembershipRow) (rows : List MembershipRow) → is_membership p c row ≡ true →
    AllByRecursion (λ key. same_key (row.person, row.conference) key ≡ false)
    (map (λ r. (r.person, r.conference)) rows) → filter (is_membership p c) rows ≡ []
none_left p c row [] is all = refl
none_left p c row (r ∷ rows) is all =
    let parts = and_parts _ _ is in
    let person : row.person ≡ p = eqb-true row.person p parts.0 in
    let conference : row.conference ≡ c = eqb-true row.conference c parts.1 in
    let other : is_membership p c r ≡ false =
    (λ i. flip_eqb r.person p i && flip_eqb r.conference c i)
    ∙ (λ i. eqb (sym person i) r.person && eqb (sym conference i) r.conference) ∙ all.0 in
    rw other (none_left p c row rows is all.1)

-- it stands alone where no person is in a conference twice
alone : (p c : ℕ) (rows : List MembershipRow) (row : MembershipRow) →
    IsDistinct same_key (map (λ r. (r.person, r.conference)) rows) → membership_of p c rows ≡ Some row →
    filter (is_membership p c) rows ≡ row ∷ []
alone p c [] row once found = absurd (none-some row found)
alone p c (r ∷ rows) row once found =
    elim (is_membership p c r) as
    (λ b. is_membership p c r ≡ b → cond b (Some r) (membership_of p c rows) ≡ Some row →
    cond b (r ∷ filter (is_membership p c) rows) (filter (is_membership p c) rows) ≡ row ∷ []) [
      | true ↦ λ is found. λ i. same_Some r row found i
          ∷ none_left p c r rows is (IsDistinct-head same_key _ _ once) i
      | false ↦ λ other found. alone p c rows row (IsDistinct-tail same_key _ _ once) found
    ] refl found

-- ---- the rows of a table

module _ (of : ℕ → ℕ → ℕ → Bool) where
  -- a test of the person, the conference and the kind of a row
  abbrev pub tells : MembershipRow → Bool
  tells row = of row.person row.conference row.kind

  -- it does not see the position
  at_any_place : (b : Bool) (place : ℕ) (row : MembershipRow) → tells (cond b (at_place place row) row) ≡ tells row
  at_any_place true place row = refl
  at_any_place false place row = refl

  -- so it says the same once places open or close
  opens : (person place : ℕ) (row : MembershipRow) → tells (open_row person place row) ≡ tells row
  opens person place row = at_any_place (eqb row.person person && leb place row.position) (row.position + 1) row

  closes : (person place : ℕ) (row : MembershipRow) → tells (close_row person place row) ≡ tells row
  closes person place row = at_any_place (eqb row.person person && ltb place row.position) (row.position - 1) row

-- the row of a person and a conference still stands alone when places have closed and opened
moved_alone : (p c person place before : ℕ) (rows : List MembershipRow) (row : MembershipRow) →
    filter (is_membership p c) rows ≡ row ∷ [] →
    filter (is_membership p c) (with_gap person place (closed_up person before rows))
    ≡ open_row person place (close_row person before row) ∷ []
moved_alone p c person place before rows row alone =
    alone-map (is_membership p c) (open_row person place)
    (opens (λ person conference kind. eqb person p && eqb conference c) person place)
    (closed_up person before rows) (close_row person before row)
    (alone-map (is_membership p c) (close_row person before)
    (closes (λ person conference kind. eqb person p && eqb conference c) person before) rows row alone)

module _ (of : ℕ → ℕ → ℕ → Bool) where
  -- a new membership
  pub passing-new : (given : MembershipRow) (rows : List MembershipRow) →
      membership_of given.person given.conference rows ≡ None →
      passing (tells of) (with_membership given rows) ≡ passing (tells of) rows + one_if (tells of given)
  passing-new given rows absent =
      let place : ℕ = min given.position (count_of given.person rows) in
      ap (λ (o : Option MembershipRow).
      passing (tells of) (elim o [ None ↦ with_new given rows | Some old ↦ set_again given old rows ])) absent
      ∙ omega (
        arith,
        passing-last (tells of) (with_gap given.person place rows) (at_place place given),
        passing-map (tells of) (open_row given.person place) (opens of given.person place) rows,
      )

  -- one that is set again
  pub passing-again : (given old : MembershipRow) (rows : List MembershipRow) →
      IsDistinct same_key (map (λ r. (r.person, r.conference)) rows) →
      membership_of given.person given.conference rows ≡ Some old →
      passing (tells of) (with_membership given rows) + one_if (tells of old)
      ≡ passing (tells of) rows + one_if (tells of given)
  passing-again given old rows once there =
      let p : ℕ = given.person in
      let c : ℕ = given.conference in
      let place : ℕ = min given.position (count_of p rows - 1) in
      let closed : List MembershipRow = closed_up p old.position rows in
      let last : MembershipRow = open_row p place (close_row p old.position old) in
      let stands : filter (is_membership p c) (with_gap p place closed) ≡ last ∷ [] =
      moved_alone p c p place old.position rows old (alone p c rows old once there) in
      omega (
        arith,
        ap (λ (o : Option MembershipRow).
            passing (tells of) (elim o [ None ↦ with_new given rows | Some row ↦ set_again given row rows ])) there,
        passing-with (tells of) (is_membership p c)
            (at_place place (record given { last_time_read = old.last_time_read }))
            (with_gap p place closed) last stands,
        passing-map (tells of) (open_row p place) (opens of p place) closed,
        passing-map (tells of) (close_row p old.position) (closes of p old.position) rows,
        ap one_if (opens of p place (close_row p old.position old)),
        ap one_if (closes of p old.position old),
      )

  -- one that is taken out
  pub passing-left : (p c : ℕ) (old : MembershipRow) (rows : List MembershipRow) →
      IsDistinct same_key (map (λ r. (r.person, r.conference)) rows) → membership_of p c rows ≡ Some old →
      passing (tells of) (without_membership p c rows) + one_if (tells of old) ≡ passing (tells of) rows
  passing-left p c old rows once there =
      omega (
        arith,
        ap (λ (o : Option MembershipRow).
            passing (tells of)
            (elim o [
              | None ↦ rows
              | Some row ↦ closed_up p row.position (filter (λ r. not (is_membership p c r)) rows)
            ])) there,
        passing-map (tells of) (close_row p old.position) (closes of p old.position)
            (filter (λ r. not (is_membership p c r)) rows),
        passing-without (tells of) (is_membership p c) rows old (alone p c rows old once there),
      )

  -- what was read is set
  pub passing-read : (p c at : ℕ) (rows : List MembershipRow) →
      passing (tells of) (read_at p c at rows) ≡ passing (tells of) rows
  passing-read p c at rows =
      passing-map (tells of) (λ row. cond (is_membership p c row) (record row { last_time_read = at }) row)
      (λ row. at_any_moment (is_membership p c row) row) rows
    where
      at_any_moment : (b : Bool) (row : MembershipRow) →
          tells of (cond b (record row { last_time_read = at }) row) ≡ tells of row
      at_any_moment true row = refl
      at_any_moment false row = refl

-- ---- how many memberships of a person pass

-- with one more in its place
passing-by_position : (test : MembershipRow → Bool) (row : MembershipRow) (rows : List MembershipRow) →
    passing test (by_position row rows) ≡ one_if (test row) + passing test rows
passing-by_position test row [] = passing-cons test row []
passing-by_position test row (first ∷ rows) =
    elim (ltb row.position first.position) as
    (λ b. passing test (cond b (row ∷ first ∷ rows) (first ∷ by_position row rows))
    ≡ one_if (test row) + passing test (first ∷ rows)) [
      | true ↦ passing-cons test row (first ∷ rows)
      | false ↦ omega (
        arith,
        passing-cons test first (by_position row rows),
        passing-cons test first rows,
        passing-by_position test row rows,
      )
    ]

-- and with all of them
passing-sorted : (test : MembershipRow → Bool) (sorted rows : List MembershipRow) →
    passing test (fold (λ done row. by_position row done) sorted rows) ≡ passing test sorted + passing test rows
passing-sorted test sorted [] = omega arith
passing-sorted test sorted (row ∷ rows) =
    omega (
      arith,
      passing-sorted test (by_position row sorted) rows,
      passing-by_position test row sorted,
      passing-cons test row rows,
    )

-- the order of a person's memberships is no matter
pub passing-memberships_of : (test : MembershipRow → Bool) (p : ℕ) (rows : List MembershipRow) →
    passing test (memberships_of p rows) ≡ passing (λ row. eqb row.person p && test row) rows
passing-memberships_of test p rows =
    omega (
      arith,
      passing-sorted test [] (filter (λ (row : MembershipRow). eqb row.person p) rows),
      passing-filter test (λ (row : MembershipRow). eqb row.person p) rows,
    )
