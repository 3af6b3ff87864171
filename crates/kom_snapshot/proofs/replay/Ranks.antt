-- How many of a person's memberships stand before one; and where each place is held once, that is its place.
use Rattle.std.proofs.Common.{◌≡◌, ◌<◌, ◌≤◌, ◌+◌, zero, suc, ⊎_elim, Bool, true, false, ◌==◌, ◌&&◌, ℕ, List, [], ◌∷◌}
use Rattle.std.proofs.Common.{◌++◌, length, refl, ◌∙◌, arith, nat_lt}
use Rattle.std.specs.List.{filter}
use Rattle.std.proofs.lemmas.Bool.{cases_eq, cases_lt, ne_eqb, eq-eqb, lt-ltb, le-ltb}
use Rattle.std.proofs.lemmas.Bool.Decides.{nat_tests}
use Rattle.kom_types.specs.declared.memberships.MembershipRow.{MembershipRow}
use Rattle.kom_types.specs.tables.Memberships.{count_of}
use Rattle.kom_snapshot.specs.Listed.{ArePlaced, is_at, count_at}
use Rattle.kom_snapshot.specs.Snap.{is_before, rank}
use Rattle.kom_snapshot.proofs.Counting.{count-append, count-cons, one_if}

-- whether one row is before another, by their persons and places
pub before : (row other : MembershipRow) → other.person ≡ row.person → other.position < row.position
    → is_before row other ≡ true
before row other same lower =
    rw (eq-eqb other.person row.person same, lt-ltb other.position row.position lower) refl

pub not_before : (row other : MembershipRow) → other.person ≡ row.person → row.position ≤ other.position
    → is_before row other ≡ false
not_before row other same higher =
    rw (eq-eqb other.person row.person same, le-ltb other.position row.position higher) refl

pub of_other : (row other : MembershipRow) → (other.person ≡ row.person → ⊥) → is_before row other ≡ false
of_other row other differs = rw (ne_eqb other.person row.person differs) refl

-- a row at no lower place counts no fewer of each
one_no_fewer : (low high other : MembershipRow) → low.person ≡ high.person → low.position ≤ high.position
    → one_if (is_before low other) ≤ one_if (is_before high other)
one_no_fewer low high other same le = ⊎_elim
    (λ (is : other.person ≡ low.person). ⊎_elim
    (λ (lower : other.position < low.position).
    rw (before low other is lower, before high other (is ∙ same) (omega (arith, lower, le))) (omega arith))
    (λ (higher : low.position ≤ other.position). rw (not_before low other is higher) (omega arith))
    (cases_lt other.position low.position))
    (λ (differs : other.person ≡ low.person → ⊥). rw (of_other low other differs) (omega arith))
    (cases_eq other.person low.person)

pub no_fewer : (low high : MembershipRow) (rows : List MembershipRow) → low.person ≡ high.person
    → low.position ≤ high.position → rank low rows ≤ rank high rows
no_fewer low high [] same le = omega arith
no_fewer low high (other ∷ rows) same le =
    let rest = no_fewer low high rows same le in
    omega (
      arith,
      count-cons (is_before low) other rows,
      count-cons (is_before high) other rows,
      one_no_fewer low high other same le,
      rest,
    )

-- and more where it counts the lower one
pub more_than : (low high : MembershipRow) (front back : List MembershipRow) → low.person ≡ high.person
    → low.position < high.position → rank low (front ++ low ∷ back) < rank high (front ++ low ∷ back)
more_than low high front back same lt =
    let le : low.position ≤ high.position = omega (arith, lt) in
    let low_one : one_if (is_before low low) ≡ 0 = rw (not_before low low refl (omega arith)) refl in
    let high_one : one_if (is_before high low) ≡ 1 = rw (before high low same lt) refl in
    omega (
      arith,
      count-append (is_before low) front (low ∷ back),
      count-append (is_before high) front (low ∷ back),
      count-cons (is_before low) low back,
      count-cons (is_before high) low back,
      no_fewer low high front same le,
      no_fewer low high back same le,
      low_one,
      high_one,
    )

-- ---- places that are held once each
abbrev is_below : ℕ → ℕ → MembershipRow → Bool
is_below person place row = row.person == person && nat_lt row.position place

one_more : (same : Bool) (at place : ℕ) →
    one_if (same && nat_lt at (suc place)) ≡ one_if (same && nat_lt at place) + one_if (same && at == place)
one_more false at place = refl
one_more true at place = grind (arith, nat_tests)

count_more : (person place : ℕ) (rows : List MembershipRow) →
    length (filter (is_below person (suc place)) rows)
    ≡ length (filter (is_below person place) rows) + count_at person place rows
count_more person place [] = refl
count_more person place (row ∷ rows) =
    let rest = count_more person place rows in
    let one = one_more (row.person == person) row.position place in
    omega (
      arith,
      rest,
      one,
      count-cons (is_below person (suc place)) row rows,
      count-cons (is_below person place) row rows,
      count-cons (is_at person place) row rows,
    )

none_below : (person : ℕ) (rows : List MembershipRow) → length (filter (is_below person 0) rows) ≡ 0
none_below person [] = refl
none_below person (row ∷ rows) =
    let rest = none_below person rows in
    let one : one_if (is_below person 0 row) ≡ 0 = none (row.person == person) row.position in
    omega (arith, rest, one, count-cons (is_below person 0) row rows)
  where
    none : (same : Bool) (at : ℕ) → one_if (same && nat_lt at 0) ≡ 0
    none false at = refl
    none true at = rw (le-ltb at 0 (omega arith)) refl

-- so many stand before a place that is not past the end
below_placed : (rows : List MembershipRow) → ArePlaced rows → (person place : ℕ) → place ≤ count_of person rows →
    length (filter (is_below person place) rows) ≡ place
below_placed rows placed person zero within = none_below person rows
below_placed rows placed person (suc place) within =
    let rest = below_placed rows placed person place (omega (arith, within)) in
    let one : one_if (nat_lt place (count_of person rows)) ≡ 1 =
    rw (lt-ltb place (count_of person rows) (omega (arith, within))) refl in
    omega (arith, rest, count_more person place rows, placed person place, one)

-- the place of a row is how many stand before it
pub rank_placed : (front : List MembershipRow) (row : MembershipRow) (rest : List MembershipRow) →
    ArePlaced (front ++ row ∷ rest) → rank row (front ++ row ∷ rest) ≡ row.position
rank_placed front row rest placed =
    let all = front ++ row ∷ rest in
    let own : one_if (is_at row.person row.position row) ≡ 1 =
    rw (eq-eqb row.person row.person refl, eq-eqb row.position row.position refl) refl in
    below_placed all placed row.person row.position (⊎_elim
    (λ (less : row.position < count_of row.person all). omega (arith, less))
    (λ (past : count_of row.person all ≤ row.position).
    let none : one_if (nat_lt row.position (count_of row.person all)) ≡ 0 =
    rw (le-ltb row.position (count_of row.person all) past) refl in
    absurd (omega (
      arith,
      none,
      placed row.person row.position,
      own,
      count-append (is_at row.person row.position) front (row ∷ rest),
      count-cons (is_at row.person row.position) row rest,
    )))
    (cases_lt row.position (count_of row.person all)))

-- no place is held twice
pub once_placed : (rows : List MembershipRow) → ArePlaced rows → (person place : ℕ) →
    count_at person place rows ≤ 1
once_placed rows placed person place = ⊎_elim
    (λ (less : place < count_of person rows).
    let one : one_if (nat_lt place (count_of person rows)) ≡ 1 =
    rw (lt-ltb place (count_of person rows) less) refl in
    omega (arith, one, placed person place))
    (λ (past : count_of person rows ≤ place).
    let none : one_if (nat_lt place (count_of person rows)) ≡ 0 =
    rw (le-ltb place (count_of person rows) past) refl in
    omega (arith, none, placed person place))
    (cases_lt place (count_of person rows))
