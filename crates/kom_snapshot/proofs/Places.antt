-- The places of a person's memberships, as they are set and taken away.
use Rattle.std.proofs.Common.{◌≡◌, ℕ, ◌+◌, ◌-◌, ◌<◌, ◌≤◌, min, Bool, false, cond, not, ◌==◌, ◌&&◌, List, []}
use Rattle.std.proofs.Common.{◌∷◌, length, Option, Some, None, refl, sym, ◌∙◌, ap, subst, inl, inr, arith}
use Rattle.std.proofs.Common.{eqb-true, ⊎_elim}
use Rattle.std.specs.Prelude.{map, nat_lt, nat_le}
use Rattle.std.specs.List.{filter}
use Rattle.std.proofs.lemmas.Bool.{cases_Bool, cases_eq, cases_lt, ne_eqb, eq-eqb, lt-ltb, le-ltb}
use Rattle.std.proofs.lemmas.Bool.{and_parts}
use Rattle.std.proofs.lemmas.Bool.Decides.{nat_tests}
use Rattle.kom_types.specs.declared.memberships.MembershipRow.{MembershipRow}
use Rattle.kom_types.specs.tables.Memberships.{is_membership, membership_of, closed_up, with_gap, at_place, count_of}
use Rattle.kom_types.specs.tables.Memberships.{with_membership, without_membership, with_new, set_again}
use Rattle.read_ranges.specs.Reads.{read_at}
use Rattle.kom_model.proofs.whole.Counts.{all-of, none-counted, all-weaker}
use Rattle.kom_snapshot.specs.Listed.{ArePlaced, is_at, count_at}
use Rattle.kom_snapshot.proofs.Counting.{count-append, count-changed, count-split, filter-changed, found-alone}
use Rattle.kom_snapshot.proofs.Counting.{count-replaced, count-cons, one_if}
use Rattle.kom_snapshot.proofs.Rising.{find-passes}

-- ---- one row that makes room, or closes up
module _ (person place : ℕ) where
  abbrev up : MembershipRow → MembershipRow
  up row = cond (row.person == person && nat_le place row.position) (at_place (row.position + 1) row) row

  abbrev down : MembershipRow → MembershipRow
  down row = cond (row.person == person && nat_lt place row.position) (at_place (row.position - 1) row) row

  up-person : (row : MembershipRow) → (up row).person ≡ row.person
  up-person row = elim (cases_Bool (row.person == person && nat_le place row.position)) [
    | inl is ↦ rw is refl
    | inr other ↦ rw other refl
  ]

  up-conference : (row : MembershipRow) → (up row).conference ≡ row.conference
  up-conference row = elim (cases_Bool (row.person == person && nat_le place row.position)) [
    | inl is ↦ rw is refl
    | inr other ↦ rw other refl
  ]

  down-person : (row : MembershipRow) → (down row).person ≡ row.person
  down-person row = elim (cases_Bool (row.person == person && nat_lt place row.position)) [
    | inl is ↦ rw is refl
    | inr other ↦ rw other refl
  ]

  down-conference : (row : MembershipRow) → (down row).conference ≡ row.conference
  down-conference row = elim (cases_Bool (row.person == person && nat_lt place row.position)) [
    | inl is ↦ rw is refl
    | inr other ↦ rw other refl
  ]

  -- rows of another
  up-other : (other q : ℕ) → (other ≡ person → ⊥) → (row : MembershipRow) → is_at other q (up row) ≡ is_at other q row
  up-other other q apart row = ⊎_elim
      (λ (is : row.person ≡ person). rw (up-person row, ne_eqb row.person other (λ e. apart (sym e ∙ is))) refl)
      (λ (not_it : row.person ≡ person → ⊥). rw (ne_eqb row.person person not_it) refl)
      (cases_eq row.person person)

  down-other : (other q : ℕ) → (other ≡ person → ⊥) → (row : MembershipRow) →
      is_at other q (down row) ≡ is_at other q row
  down-other other q apart row = ⊎_elim
      (λ (is : row.person ≡ person). rw (down-person row, ne_eqb row.person other (λ e. apart (sym e ∙ is))) refl)
      (λ (not_it : row.person ≡ person → ⊥). rw (ne_eqb row.person person not_it) refl)
      (cases_eq row.person person)

  -- numbers alone
  moved_up-below : (at q : ℕ) → q < place → (cond (nat_le place at) (at + 1) at == q) ≡ (at == q)
  moved_up-below at q below = grind (arith, nat_tests)

  moved_up-at : (at : ℕ) → (cond (nat_le place at) (at + 1) at == place) ≡ false
  moved_up-at at = grind (arith, nat_tests)

  moved_up-above : (at q : ℕ) → place ≤ q → (cond (nat_le place at) (at + 1) at == q + 1) ≡ (at == q)
  moved_up-above at q above = grind (arith, nat_tests)

  moved_down-below : (at q : ℕ) → q < place → (cond (nat_lt place at) (at - 1) at == q) ≡ (at == q)
  moved_down-below at q below = grind (arith, nat_tests)

  moved_down-above : (at q : ℕ) → place ≤ q → (at == place) ≡ false →
      (cond (nat_lt place at) (at - 1) at == q) ≡ (at == q + 1)
  moved_down-above at q above apart = grind (arith, nat_tests)

  up-place : (row : MembershipRow) → row.person ≡ person →
      (up row).position ≡ cond (nat_le place row.position) (row.position + 1) row.position
  up-place row is = elim (cases_Bool (nat_le place row.position)) [
    | inl above ↦ rw (eq-eqb row.person person is, above) refl
    | inr below ↦ rw (eq-eqb row.person person is, below) refl
  ]

  down-place : (row : MembershipRow) → row.person ≡ person →
      (down row).position ≡ cond (nat_lt place row.position) (row.position - 1) row.position
  down-place row is = elim (cases_Bool (nat_lt place row.position)) [
    | inl above ↦ rw (eq-eqb row.person person is, above) refl
    | inr below ↦ rw (eq-eqb row.person person is, below) refl
  ]

  -- so many rows of each person as before
  up-count : (other : ℕ) (rows : List MembershipRow) → count_of other (map up rows) ≡ count_of other rows
  up-count other rows = count-changed (λ row. row.person == other) (λ row. row.person == other) up rows
      (all-of _ (λ row. ap (λ n. n == other) (up-person row)) rows)

  down-count : (other : ℕ) (rows : List MembershipRow) → count_of other (map down rows) ≡ count_of other rows
  down-count other rows = count-changed (λ row. row.person == other) (λ row. row.person == other) down rows
      (all-of _ (λ row. ap (λ n. n == other) (down-person row)) rows)

  up-at : (q q' : ℕ) →
      ((at : ℕ) → (cond (nat_le place at) (at + 1) at == q) ≡ (at == q')) → (row : MembershipRow) →
      is_at person q (up row) ≡ is_at person q' row
  up-at q q' moved row = ⊎_elim
      (λ (is : row.person ≡ person). rw (up-person row, up-place row is, eq-eqb row.person person is)
      (moved row.position))
      (λ (apart : row.person ≡ person → ⊥). rw (up-person row, ne_eqb row.person person apart) refl)
      (cases_eq row.person person)

  up-gone : (row : MembershipRow) → is_at person place (up row) ≡ false
  up-gone row = ⊎_elim
      (λ (is : row.person ≡ person). rw (up-person row, up-place row is, eq-eqb row.person person is)
      (moved_up-at row.position))
      (λ (apart : row.person ≡ person → ⊥). rw (up-person row, ne_eqb row.person person apart) refl)
      (cases_eq row.person person)

  down-at : (q q' : ℕ) → (row : MembershipRow) →
      ((cond (nat_lt place row.position) (row.position - 1) row.position == q) ≡ (row.position == q')) →
      is_at person q (down row) ≡ is_at person q' row
  down-at q q' row moved = ⊎_elim
      (λ (is : row.person ≡ person). rw (down-person row, down-place row is, eq-eqb row.person person is) moved)
      (λ (apart : row.person ≡ person → ⊥). rw (down-person row, ne_eqb row.person person apart) refl)
      (cases_eq row.person person)

  -- a place of the person is free, and its others count up but for that
  pub record HasGap (rows : List MembershipRow) : Type 0 where
    pub own : (q : ℕ) → count_at person q rows + one_if (place == q) ≡ one_if (nat_lt q (count_of person rows + 1))
    pub others : (other q : ℕ) → (other ≡ person → ⊥) → count_at other q rows ≡ one_if (nat_lt q (count_of other rows))

  lifted : (bound q : ℕ) → q < bound → one_if (nat_lt q bound) ≡ 1
  lifted bound q less = rw (lt-ltb q bound less) refl

  beyond : (bound q : ℕ) → bound ≤ q → one_if (nat_lt q bound) ≡ 0
  beyond bound q more = rw (le-ltb q bound more) refl

  here : one_if (place == place) ≡ 1
  here = rw (eq-eqb place place refl) refl

  elsewhere : (q : ℕ) → (place ≡ q → ⊥) → one_if (place == q) ≡ 0
  elsewhere q apart = rw (ne_eqb place q apart) refl

  -- a place is made where all count up
  pub opened-gap : (rows : List MembershipRow) → ArePlaced rows → place ≤ count_of person rows →
      HasGap (with_gap person place rows)
  opened-gap rows placed within = record {
    own = λ q. ⊎_elim
        (λ (below : q < place).
        let same : count_at person q (with_gap person place rows) ≡ count_at person q rows =
        count-changed (is_at person q) (is_at person q) up rows
        (all-of _ (up-at q q (λ at. moved_up-below at q below)) rows) in
        omega (
          arith,
          same,
          placed person q,
          up-count person rows,
          lifted (count_of person rows) q (omega (arith, below, within)),
          lifted (count_of person (with_gap person place rows) + 1) q
              (omega (arith, below, within, up-count person rows)),
          elsewhere q (λ e. omega (arith, below, e)),
        ))
        (λ (above : place ≤ q). ⊎_elim
        (λ (is : place ≡ q).
        let none : count_at person q (with_gap person place rows) ≡ 0 = rw (← is)
        (count-changed (λ row. false) (is_at person place) up rows (all-of _ up-gone rows) ∙ no-one rows) in
        let free : one_if (place == q) ≡ 1 = rw (eq-eqb place q is) refl in
        omega (
          arith,
          none,
          free,
          lifted (count_of person (with_gap person place rows) + 1) q
              (omega (arith, is, within, up-count person rows)),
        ))
        (λ (apart : place ≡ q → ⊥).
        let later : (q - 1) + 1 ≡ q = omega (arith, above, apart) in
        let same : count_at person q (with_gap person place rows) ≡ count_at person (q - 1) rows =
        subst (λ n. count_at person n (with_gap person place rows) ≡ count_at person (q - 1) rows) later
        (count-changed (is_at person (q - 1)) (is_at person ((q - 1) + 1)) up rows
        (all-of _ (up-at ((q - 1) + 1) (q - 1)
        (λ at. moved_up-above at (q - 1) (omega (arith, above, apart)))) rows)) in
        ⊎_elim
        (λ (less : q - 1 < count_of person rows). omega (
          arith,
          same,
          placed person (q - 1),
          elsewhere q apart,
          lifted (count_of person rows) (q - 1) less,
          lifted (count_of person (with_gap person place rows) + 1) q
              (omega (arith, less, later, up-count person rows)),
        ))
        (λ (more : count_of person rows ≤ q - 1). omega (
          arith,
          same,
          placed person (q - 1),
          elsewhere q apart,
          beyond (count_of person rows) (q - 1) more,
          beyond (count_of person (with_gap person place rows) + 1) q
              (omega (arith, more, later, up-count person rows)),
        ))
        (cases_lt (q - 1) (count_of person rows)))
        (cases_eq place q))
        (cases_lt q place);
    others = λ other q apart.
        let same : count_at other q (with_gap person place rows) ≡ count_at other q rows =
        count-changed (is_at other q) (is_at other q) up rows (all-of _ (up-other other q apart) rows) in
        same ∙ placed other q ∙ ap (λ n. one_if (nat_lt q n)) (sym (up-count other rows));
  } where
    no-one : (rows : List MembershipRow) → length (filter (λ (row : MembershipRow). false) rows) ≡ 0
    no-one [] = refl
    no-one (row ∷ rows) = no-one rows

  free-place : (rows : List MembershipRow) → HasGap rows → place ≤ count_of person rows →
      count_at person place rows ≡ 0
  free-place rows gap within =
      omega (arith, gap.own place, here, lifted (count_of person rows + 1) place (omega (arith, within)))

  down-above : (q : ℕ) → place ≤ q → (row : MembershipRow) → is_at person place row ≡ false →
      is_at person q (down row) ≡ is_at person (q + 1) row
  down-above q above row free = ⊎_elim
      (λ (is : row.person ≡ person).
      let apart : (row.position == place) ≡ false = rw (eq-eqb row.person person is) at free in
      rw (down-person row, down-place row is, eq-eqb row.person person is)
      (moved_down-above row.position q above apart))
      (λ (apart : row.person ≡ person → ⊥). rw (down-person row, ne_eqb row.person person apart) refl)
      (cases_eq row.person person)

  -- a place is closed where all others count up
  pub closed-placed : (rows : List MembershipRow) → HasGap rows → place ≤ count_of person rows →
      ArePlaced (closed_up person place rows)
  closed-placed rows gap within other q = ⊎_elim
      (λ (is : other ≡ person). subst (λ n. count_at n q (closed_up person place rows)
      ≡ one_if (nat_lt q (count_of n (closed_up person place rows)))) (sym is) own)
      (λ (apart : other ≡ person → ⊥).
      let same : count_at other q (closed_up person place rows) ≡ count_at other q rows =
      count-changed (is_at other q) (is_at other q) down rows (all-of _ (down-other other q apart) rows) in
      same ∙ gap.others other q apart ∙ ap (λ n. one_if (nat_lt q n)) (sym (down-count other rows)))
      (cases_eq other person)
    where
      own : count_at person q (closed_up person place rows)
          ≡ one_if (nat_lt q (count_of person (closed_up person place rows)))
      own = ⊎_elim
          (λ (below : q < place).
          let same : count_at person q (closed_up person place rows) ≡ count_at person q rows =
          count-changed (is_at person q) (is_at person q) down rows
          (all-of _ (λ row. down-at q q row (moved_down-below row.position q below)) rows) in
          omega (
            arith,
            same,
            gap.own q,
            elsewhere q (λ e. omega (arith, below, e)),
            lifted (count_of person rows + 1) q (omega (arith, below, within)),
            lifted (count_of person (closed_up person place rows)) q
                (omega (arith, below, within, down-count person rows)),
          ))
          (λ (above : place ≤ q).
          let same : count_at person q (closed_up person place rows) ≡ count_at person (q + 1) rows =
          count-changed (is_at person (q + 1)) (is_at person q) down rows
          (all-weaker _ _ (down-above q above) rows
          (none-counted (is_at person place) rows (free-place rows gap within))) in
          ⊎_elim
          (λ (less : q < count_of person rows). omega (
            arith,
            same,
            gap.own (q + 1),
            elsewhere (q + 1) (λ e. omega (arith, above, e)),
            lifted (count_of person rows + 1) (q + 1) (omega (arith, less)),
            lifted (count_of person (closed_up person place rows)) q (omega (arith, less, down-count person rows)),
          ))
          (λ (more : count_of person rows ≤ q). omega (
            arith,
            same,
            gap.own (q + 1),
            elsewhere (q + 1) (λ e. omega (arith, above, e)),
            beyond (count_of person rows + 1) (q + 1) (omega (arith, more)),
            beyond (count_of person (closed_up person place rows)) q (omega (arith, more, down-count person rows)),
          ))
          (cases_lt q (count_of person rows)))
          (cases_lt q place)

  -- rows that are others with a gap, and one more in it
  pub filled-placed : (rows all : List MembershipRow) → HasGap rows →
      ((q : ℕ) → count_at person q all ≡ one_if (place == q) + count_at person q rows) →
      count_of person all ≡ count_of person rows + 1 →
      ((other q : ℕ) → (other ≡ person → ⊥) → count_at other q all ≡ count_at other q rows) →
      ((other : ℕ) → (other ≡ person → ⊥) → count_of other all ≡ count_of other rows) → ArePlaced all
  filled-placed rows all gap more count same same_count other q = ⊎_elim
      (λ (is : other ≡ person). subst (λ n. count_at n q all ≡ one_if (nat_lt q (count_of n all))) (sym is)
      (let one : count_at person q all ≡ one_if (nat_lt q (count_of person rows + 1)) =
      omega (arith, more q, gap.own q) in
      one ∙ ap (λ n. one_if (nat_lt q n)) (sym count)))
      (λ (apart : other ≡ person → ⊥). same other q apart ∙ gap.others other q apart
      ∙ ap (λ n. one_if (nat_lt q n)) (sym (same_count other apart)))
      (cases_eq other person)

  -- and the other way round
  pub emptied-gap : (rows all : List MembershipRow) → ArePlaced all →
      ((q : ℕ) → count_at person q all ≡ one_if (place == q) + count_at person q rows) →
      count_of person all ≡ count_of person rows + 1 →
      ((other q : ℕ) → (other ≡ person → ⊥) → count_at other q all ≡ count_at other q rows) →
      ((other : ℕ) → (other ≡ person → ⊥) → count_of other all ≡ count_of other rows) → HasGap rows
  emptied-gap rows all placed more count same same_count = record {
    own = λ q.
        let one : count_at person q rows + one_if (place == q) ≡ one_if (nat_lt q (count_of person all)) =
        omega (arith, more q, placed person q) in
        one ∙ ap (λ n. one_if (nat_lt q n)) count;
    others = λ other q apart. sym (same other q apart) ∙ placed other q
        ∙ ap (λ n. one_if (nat_lt q n)) (same_count other apart);
  }

  -- the place that was a row's is not past the others
  pub within-others : (rows all : List MembershipRow) → ArePlaced all →
      count_at person place all ≡ one_if (place == place) + count_at person place rows →
      count_of person all ≡ count_of person rows + 1 → place ≤ count_of person rows
  within-others rows all placed more count = ⊎_elim
      (λ (less : place < count_of person all). omega (arith, less, count))
      (λ (past : count_of person all ≤ place).
      absurd (omega (arith, placed person place, beyond (count_of person all) place past, more, here)))
      (cases_lt place (count_of person all))

-- rows are one of a person at a place, and others
module _ (row : MembershipRow) (others all : List MembershipRow)
    (split : (test : MembershipRow → Bool) →
    length (filter test all) ≡ one_if (test row) + length (filter test others)) where
  split-at : (q : ℕ) → count_at row.person q all ≡ one_if (row.position == q) + count_at row.person q others
  split-at q = split (is_at row.person q)
      ∙ ap {B = ℕ} (λ b. one_if (b && row.position == q) + count_at row.person q others)
      (eq-eqb row.person row.person refl)

  split-count : count_of row.person all ≡ count_of row.person others + 1
  split-count = split (λ one. one.person == row.person)
      ∙ ap {B = ℕ} (λ b. one_if b + count_of row.person others) (eq-eqb row.person row.person refl) ∙ omega arith

  split-other : (other q : ℕ) → (other ≡ row.person → ⊥) → count_at other q all ≡ count_at other q others
  split-other other q apart = split (is_at other q)
      ∙ ap {B = ℕ} (λ b. one_if (b && row.position == q) + count_at other q others)
      (ne_eqb row.person other (λ e. apart (sym e))) ∙ omega arith

  split-others : (other : ℕ) → (other ≡ row.person → ⊥) → count_of other all ≡ count_of other others
  split-others other apart = split (λ one. one.person == other)
      ∙ ap {B = ℕ} (λ b. one_if b + count_of other others) (ne_eqb row.person other (λ e. apart (sym e))) ∙ omega arith

  split-gap : ArePlaced all → HasGap row.person row.position others
  split-gap placed =
      emptied-gap row.person row.position others all placed split-at split-count split-other split-others

  split-within : ArePlaced all → row.position ≤ count_of row.person others
  split-within placed =
      within-others row.person row.position others all placed (split-at row.position) split-count

  split-placed : HasGap row.person row.position others → ArePlaced all
  split-placed gap =
      filled-placed row.person row.position others all gap split-at split-count split-other split-others

abbrev left : ℕ → ℕ → List MembershipRow → List MembershipRow
left person conference rows = filter (λ row. not (is_membership person conference row)) rows

module _ (person conference : ℕ) (rows : List MembershipRow)
    (once : length (filter (is_membership person conference) rows) ≤ 1) where
  module _ (row : MembershipRow) (found : membership_of person conference rows ≡ Some row) where
    found-person : row.person ≡ person
    found-person = eqb-true row.person person
        (and_parts (row.person == person) (row.conference == conference)
        (find-passes (is_membership person conference) rows row found)).0

    found-conference : row.conference ≡ conference
    found-conference = eqb-true row.conference conference
        (and_parts (row.person == person) (row.conference == conference)
        (find-passes (is_membership person conference) rows row found)).1

    found-split : (test : MembershipRow → Bool) →
        length (filter test rows) ≡ one_if (test row) + length (filter test (left person conference rows))
    found-split test =
        let all = count-split test (is_membership person conference) rows in
        let one : length (filter test (filter (is_membership person conference) rows)) ≡ one_if (test row) + 0 =
        ap (λ l. length (filter test l)) (found-alone (is_membership person conference) rows row found once)
        ∙ count-cons test row [] in
        omega (arith, all, one)

    taken-placed : ArePlaced rows → ArePlaced (closed_up person row.position (left person conference rows))
    taken-placed placed = subst (λ n. ArePlaced (closed_up n row.position (left person conference rows))) found-person
        (closed-placed row.person row.position (left person conference rows)
        (split-gap row (left person conference rows) rows found-split placed)
        (split-within row (left person conference rows) rows found-split placed))

  pub without-placed : ArePlaced rows → ArePlaced (without_membership person conference rows)
  without-placed placed = by (membership_of person conference rows) refl
    where
      by : (found : Option MembershipRow) → membership_of person conference rows ≡ found →
          ArePlaced (elim found [
            | None ↦ rows
            | Some row ↦ closed_up person row.position
                (filter (λ row. not (is_membership person conference row)) rows)
          ])
      by None found = placed
      by (Some row) found = taken-placed row found placed

module _ (person conference at : ℕ) where
  abbrev read : MembershipRow → MembershipRow
  read row = cond (is_membership person conference row) (record row { last_time_read = at }) row

  read-at : (other q : ℕ) (row : MembershipRow) → is_at other q (read row) ≡ is_at other q row
  read-at other q row = elim (cases_Bool (is_membership person conference row)) [
    | inl is ↦ rw is refl
    | inr apart ↦ rw apart refl
  ]

  read-person : (other : ℕ) (row : MembershipRow) → ((read row).person == other) ≡ (row.person == other)
  read-person other row = elim (cases_Bool (is_membership person conference row)) [
    | inl is ↦ rw is refl
    | inr apart ↦ rw apart refl
  ]

  pub read-placed : (rows : List MembershipRow) → ArePlaced rows → ArePlaced (read_at person conference at rows)
  read-placed rows placed other q =
      count-changed (is_at other q) (is_at other q) read rows (all-of _ (read-at other q) rows)
      ∙ placed other q
      ∙ ap (λ n. one_if (nat_lt q n)) (sym (count-changed (λ row. row.person == other) (λ row. row.person == other)
      read rows (all-of _ (read-person other) rows)))

new-placed : (given : MembershipRow) (rows : List MembershipRow) → ArePlaced rows → ArePlaced (with_new given rows)
new-placed given rows placed =
    let place : ℕ = min given.position (count_of given.person rows) in
    let put : MembershipRow = at_place place given in
    split-placed put (with_gap given.person place rows) (with_new given rows)
    (λ test. count-append test (with_gap given.person place rows) (put ∷ [])
    ∙ omega (arith, count-cons test put []))
    (opened-gap given.person place rows placed (omega arith))

module _ (given old : MembershipRow) (rows : List MembershipRow)
    (once : length (filter (is_membership given.person given.conference) rows) ≤ 1)
    (found : membership_of given.person given.conference rows ≡ Some old) (placed : ArePlaced rows) where
  abbrev place : ℕ
  place = min given.position (count_of given.person rows - 1)

  abbrev put : MembershipRow
  put = at_place place (record given { last_time_read = old.last_time_read })

  abbrev key : MembershipRow → Bool
  key = is_membership given.person given.conference

  abbrev others : List MembershipRow
  others = left given.person given.conference rows

  key-up : (at : ℕ) (row : MembershipRow) → key (up given.person at row) ≡ key row
  key-up at row = rw (up-person given.person at row, up-conference given.person at row) refl

  key-down : (at : ℕ) (row : MembershipRow) → key (down given.person at row) ≡ key row
  key-down at row = rw (down-person given.person at row, down-conference given.person at row) refl

  abbrev table : List MembershipRow → List MembershipRow
  table rows = with_gap given.person place (closed_up given.person old.position rows)

  table-filter : (test : MembershipRow → Bool) →
      ((at : ℕ) (row : MembershipRow) → test (up given.person at row) ≡ test row) →
      ((at : ℕ) (row : MembershipRow) → test (down given.person at row) ≡ test row) → (rows : List MembershipRow) →
      filter test (table rows) ≡ table (filter test rows)
  table-filter test ups downs rows =
      filter-changed test (up given.person place) (ups place) (closed_up given.person old.position rows)
      ∙ ap (map (up given.person place))
      (filter-changed test (down given.person old.position) (downs old.position) rows)

  one-key : length (filter key (table rows)) ≡ 1
  one-key = ap length (table-filter key key-up key-down rows)
      ∙ ap (λ l. length (table l)) (found-alone key rows old found once)

  set-split : (test : MembershipRow → Bool) →
      length (filter test (set_again given old rows)) ≡ one_if (test put) + length (filter test (table others))
  set-split test =
      let all = count-replaced test key put (table rows) in
      let rest : length (filter test (filter (λ row. not (key row)) (table rows)))
      ≡ length (filter test (table others)) =
      ap (λ l. length (filter test l)) (table-filter (λ row. not (key row)) (λ at row. ap not (key-up at row))
      (λ at row. ap not (key-down at row)) rows) in
      all
      ∙ ap {B = ℕ} (λ n. cond (test put) n 0 + length (filter test (filter (λ row. not (key row)) (table rows))))
      one-key
      ∙ ap {B = ℕ} (λ n. one_if (test put) + n) rest

  again-placed : ArePlaced (set_again given old rows)
  again-placed =
      let closed = taken-placed given.person given.conference rows once old found placed in
      let is = found-person given.person given.conference rows once old found in
      let count : count_of given.person rows ≡ count_of given.person others + 1 =
      subst (λ n. count_of n rows ≡ count_of n others + 1) is
      (split-count old others rows (found-split given.person given.conference rows once old found)) in
      let same = down-count given.person old.position given.person others in
      split-placed put (table others) (set_again given old rows) set-split
      (opened-gap given.person place (closed_up given.person old.position others) closed (omega (arith, count, same)))

pub with-placed : (given : MembershipRow) (rows : List MembershipRow) →
    length (filter (is_membership given.person given.conference) rows) ≤ 1 → ArePlaced rows →
    ArePlaced (with_membership given rows)
with-placed given rows once placed = by (membership_of given.person given.conference rows) refl
  where
    by : (found : Option MembershipRow) → membership_of given.person given.conference rows ≡ found →
        ArePlaced (elim found [ None ↦ with_new given rows | Some old ↦ set_again given old rows ])
    by None found = new-placed given rows placed
    by (Some old) found = again-placed given old rows once found placed
