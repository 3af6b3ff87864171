-- How many of the first memberships are hidden from who looks: as many as are found among those that may be.
use Rattle.std.proofs.Common.{◌≡◌, ℕ, zero, suc, ◌+◌, ◌-◌, ◌≤◌, Bool, true, false, cond, not, ◌||◌, ◌&&◌, eqb, ltb}
use Rattle.std.proofs.Common.{nat_eq, List, [], ◌∷◌, ◌++◌, length, map, filter, take, drop, Option, Some, None, is_some}
use Rattle.std.proofs.Common.{refl, sym, ap, ◌∙◌, inl, inr, true≢false, arith}
use Rattle.std.specs.Prelude.{min}
use Rattle.std.specs.List.{AllByRecursion, IsDistinct, count_by, list_any, range_with_len}
use Rattle.std.proofs.Math.Seq.{drop-nil, drop-append-add}
use Rattle.std.proofs.lemmas.Bool.{cases_Bool, cases_lt, eq-eqb, and_right, lt-ltb, le-ltb}
use Rattle.std.proofs.lemmas.Bool.Decides.{nat_tests}
use Rattle.std.proofs.lemmas.List.{length-drop, length-take, drop_all, take_all, take-append-drop}
use Rattle.std.proofs.lemmas.List.Elements.{filter-append}
use Rattle.std.proofs.lemmas.List.Sums.{length-filter, count_by-le-length}
use Rattle.std.proofs.lemmas.Map.Keys.{IsDistinct-head, IsDistinct-tail}
use Rattle.kom_types.specs.declared.memberships.MembershipRow.{MembershipRow}
use Rattle.kom_types.specs.tables.Memberships.{is_secret_membership}
use Rattle.kom_model.specs.declared.viewers.Viewer.{Viewer}
use Rattle.kom_model.specs.Db.{Db, membership_of, memberships_of, members_of}
use Rattle.kom_model.specs.Rights.{supervises, sees}
use Rattle.kom_model.specs.Shown.{shows_membership}
use Rattle.kom_state.specs.Placed.{AreThere, AreInPlace, AreFound}
use Rattle.kom_state.specs.Secrecy.{is_secret_in}
use Rattle.kom_state.proofs.TableRows.{all_weaker, all_both}
use Rattle.query_calls.specs.Hidden.{is_hidden, hidden_members, hidden_memberships, is_before, is_plain_member}
use Rattle.query_calls.specs.Hidden.{is_unseen}
use Rattle.query_calls.specs.Walks.{LeadsTo}
use Rattle.query_calls.proofs.ShownToFew.{shows-strong, shows-supervised, shows-plain, sees-plain, are_own, IsKnown}
use Rattle.query_calls.proofs.ShownToFew.{all_known, shown_strong, shown_own}

-- ---- counts
abbrev one_if : Bool → ℕ
one_if so = cond so 1 0

module _ {X : Type 0} where
  -- how many pass a test
  abbrev pub passing : (X → Bool) → List X → ℕ
  passing test xs = length (filter test xs)

  passing-cons : (test : X → Bool) (x : X) (xs : List X) → passing test (x ∷ xs) ≡ one_if (test x) + passing test xs
  passing-cons test x xs =
      elim (test x) as (λ b. length (cond b (x ∷ filter test xs) (filter test xs)) ≡ cond b 1 0 + passing test xs) [
        | true ↦ omega arith
        | false ↦ omega arith
      ]

  passing-none : (test : X → Bool) (xs : List X) → AllByRecursion (λ x. test x ≡ false) xs → passing test xs ≡ 0
  passing-none test [] none = refl
  passing-none test (x ∷ xs) none = rw none.0 (passing-none test xs none.1)

  passing-all : (test : X → Bool) (xs : List X) → AllByRecursion (λ x. test x ≡ true) xs → passing test xs ≡ length xs
  passing-all test [] all = refl
  passing-all test (x ∷ xs) all = rw all.0 (omega (arith, passing-all test xs all.1))

  passing-alike : (one other : X → Bool) (xs : List X) → AllByRecursion (λ x. one x ≡ other x) xs →
      passing one xs ≡ passing other xs
  passing-alike one other [] all = refl
  passing-alike one other (x ∷ xs) all =
      omega (
        arith,
        passing-cons one x xs,
        passing-cons other x xs,
        ap one_if all.0,
        passing-alike one other xs all.1,
      )

  all_of : (P : X → Type 0) → ((x : X) → P x) → (xs : List X) → AllByRecursion P xs
  all_of P every [] = tt
  all_of P every (x ∷ xs) = (every x, all_of P every xs)

  all_first : (P : X → Type 0) (count : ℕ) (xs : List X) → AllByRecursion P xs → AllByRecursion P (take count xs)
  all_first P zero xs all = tt
  all_first P (suc count) [] all = tt
  all_first P (suc count) (x ∷ xs) all = (all.0, all_first P count xs all.1)

  -- those that pass a test, and those that do not
  passing-not : (test : X → Bool) (xs : List X) → passing test xs + passing (λ x. not (test x)) xs ≡ length xs
  passing-not test [] = refl
  passing-not test (x ∷ xs) =
      omega (
        arith,
        passing-cons test x xs,
        passing-cons (λ x. not (test x)) x xs,
        passing-not test xs,
        either (test x),
      )
    where
      either : (b : Bool) → one_if b + one_if (not b) ≡ 1
      either true = refl
      either false = refl

  -- those that pass one test, by another
  passing-split : (test by : X → Bool) (xs : List X) →
      passing test xs ≡ passing (λ x. by x && test x) xs + passing (λ x. not (by x) && test x) xs
  passing-split test by [] = refl
  passing-split test by (x ∷ xs) =
      omega (
        arith,
        passing-cons test x xs,
        passing-cons (λ x. by x && test x) x xs,
        passing-cons (λ x. not (by x) && test x) x xs,
        passing-split test by xs,
        either (by x) (test x),
      )
    where
      either : (a b : Bool) → one_if b ≡ one_if (a && b) + one_if (not a && b)
      either true b = omega arith
      either false b = omega arith

  module _ (test : X → Bool) (rows : List X) where
    abbrev before : ℕ → List X
    before place = filter test (take place rows)

    abbrev behind : ℕ → List X
    behind place = filter test (drop place rows)

    halves : (place : ℕ) → filter test rows ≡ before place ++ behind place
    halves place =
        ap (filter test) (sym (take-append-drop place rows)) ∙ filter-append test (take place rows) (drop place rows)

    hidden-count : (place : ℕ) →
        length (before place) + count_by (λ x. not (test x)) (take place rows) ≡ min place (length rows)
    hidden-count place =
        omega (
          arith,
          passing-not test (take place rows),
          length-filter (λ x. not (test x)) (take place rows),
          length-take place rows,
        )

    -- from a place on, as many that pass are passed over as rows before it do not
    pub leads : (place : ℕ) → LeadsTo test rows place (count_by (λ x. not (test x)) (take place rows))
    leads place = record {
      same = elim (cases_lt (length rows) place) [
        | inl past ↦
            let none : drop place rows ≡ [] = drop_all place rows (omega arith) in
            let few : length (filter test rows) ≤ place =
            omega (arith, length-filter test rows, count_by-le-length test rows) in
            ap (λ l. drop (count_by (λ x. not (test x)) (take place rows)) (filter test l)) none
            ∙ drop-nil (count_by (λ x. not (test x)) (take place rows)) ∙ sym (drop_all place (filter test rows) few)
        | inr within ↦
            let k : ℕ = count_by (λ x. not (test x)) (take place rows) in
            let both : length (before place) + k ≡ place = omega (arith, hidden-count place) in
            sym (ap (drop place) (halves place)
            ∙ ap (λ n. drop n (before place ++ behind place)) (sym both)
            ∙ drop-append-add (before place) (behind place) k)
      ];
    }

    -- there is something at the place if there is at the end of the walk
    pub led-length : (place passed : ℕ) → LeadsTo test rows place passed →
        ltb passed (length (behind place)) ≡ ltb place (length (filter test rows))
    led-length place passed leads =
        less_left passed (length (behind place)) ∙ ap (ltb 0) (sym (length-drop passed (behind place)))
        ∙ ap (λ l. ltb 0 (length l)) leads.same
        ∙ ap (ltb 0) (length-drop place (filter test rows)) ∙ sym (less_left place (length (filter test rows)))
      where
        less_left : (k n : ℕ) → ltb k n ≡ ltb 0 (n - k)
        less_left k n =
            elim (cases_lt k n) [ inl less ↦ grind (arith, nat_tests) | inr past ↦ grind (arith, nat_tests) ]

    -- all that pass are those that are not hidden
    pub told-all : length rows - count_by (λ x. not (test x)) (take (length rows) rows) ≡ length (filter test rows)
    told-all =
        omega (
          arith,
          hidden-count (length rows),
          ap (λ l. length (filter test l)) (take_all (length rows) rows (omega arith)),
        )

    pub hidden-few : (place : ℕ) → count_by (λ x. not (test x)) (take place rows) ≤ min place (length rows)
    hidden-few place = omega (arith, hidden-count place)

-- ---- the members of a conference
-- Of rows of different persons, those whose person is among the first ones are the first.
first_counted : (g : MembershipRow → Bool) (rows : List MembershipRow) → IsDistinct nat_eq (map (λ r. r.person) rows) →
    (count : ℕ) →
    passing (λ row. g row && list_any (λ r. eqb r.person row.person) (take count rows)) rows
    ≡ passing g (take count rows)
first_counted g rows distinct zero =
    passing-none (λ row. g row && false) rows
    (all_of (λ row. (g row && false) ≡ false) (λ row. and_right (g row) false refl) rows)
first_counted g [] distinct (suc count) = refl
first_counted g (x ∷ rows) distinct (suc count) =
    let inside : MembershipRow → Bool = λ row. list_any (λ r. eqb r.person row.person) (take count rows) in
    let tests : MembershipRow → Bool = λ row. g row && (eqb x.person row.person || inside row) in
    omega (
      arith,
      passing-cons tests x rows,
      ap (λ b. one_if (g x && (b || inside x))) (eq-eqb x.person x.person refl),
      ap one_if (and_true (g x)),
      passing-alike tests (λ row. g row && inside row) rows
          (others rows (IsDistinct-head nat_eq x.person (map (λ r. r.person) rows) distinct)),
      first_counted g rows (IsDistinct-tail nat_eq x.person (map (λ r. r.person) rows) distinct) count,
      passing-cons g x (take count rows),
    )
  where
    and_true : (b : Bool) → (b && true) ≡ b
    and_true true = refl
    and_true false = refl

    others : (rest : List MembershipRow) →
        AllByRecursion (λ person. nat_eq x.person person ≡ false) (map (λ r. r.person) rest) →
        AllByRecursion (λ row.
        (g row && (eqb x.person row.person || list_any (λ r. eqb r.person row.person) (take count rows)))
        ≡ (g row && list_any (λ r. eqb r.person row.person) (take count rows))) rest
    others [] all = tt
    others (row ∷ rest) all = (
      ap (λ b. g row && (b || list_any (λ r. eqb r.person row.person) (take count rows))) all.0,
      others rest all.1,
    )

-- what a test says of the first of what is made of rows, it says of the first rows
pub first_made : {X Y : Type 0} (made : X → Y) (test : Y → Bool) (count : ℕ) (xs : List X) →
    passing test (take count (map made xs)) ≡ passing (λ x. test (made x)) (take count xs)
first_made made test zero xs = refl
first_made made test (suc count) [] = refl
first_made made test (suc count) (x ∷ xs) =
    omega (
      arith,
      passing-cons test (made x) (take count (map made xs)),
      passing-cons (λ x. test (made x)) x (take count xs),
      first_made made test count xs,
    )

module _ (db : Db) (viewer : Viewer) (conference : ℕ) where
  abbrev members : List MembershipRow
  members = members_of db conference

  abbrev shows_member : MembershipRow → Bool
  shows_member row = shows_membership db viewer row.person conference row.kind

  -- a secret membership is hidden from who is not near the person
  abbrev is_far : ℕ → Bool
  is_far person = not (eqb viewer.person person || supervises db viewer.person person)

  -- where all are shown none is hidden
  none_hidden : (first : ℕ) → ((row : MembershipRow) → shows_member row ≡ true) →
      0 ≡ hidden_members db viewer conference first
  none_hidden first all =
      sym (sym (length-filter (λ row. not (shows_member row)) (take first members))
      ∙ passing-none (λ row. not (shows_member row)) (take first members)
      (all_of (λ row. not (shows_member row) ≡ false) (λ row. ap not (all row)) (take first members)))

  pub none_from_strong : (first : ℕ) → sees db viewer conference ≡ true → viewer.strong ≡ true →
      0 ≡ hidden_members db viewer conference first
  none_from_strong first seen strong =
      none_hidden first (λ row. shows-strong db viewer row.person conference row.kind strong ∙ seen)

  pub none_from_supervisor : (first : ℕ) → sees db viewer conference ≡ true →
      supervises db viewer.person conference ≡ true → 0 ≡ hidden_members db viewer conference first
  none_from_supervisor first seen by =
      none_hidden first (λ row. shows-supervised db viewer row.person conference row.kind by ∙ seen)

  -- who does not see the conference is shown none
  pub all_from_outside : (first : ℕ) → sees db viewer conference ≡ false →
      min first (length members) ≡ hidden_members db viewer conference first
  unfolding shows_membership
  all_from_outside first unseen =
      omega (
        arith,
        length-take first members,
        length-filter (λ row. not (shows_member row)) (take first members),
        passing-all (λ row. not (shows_member row)) (take first members)
            (all_of (λ row. not (shows_member row) ≡ true) (λ row. ap not (shows_none row)) (take first members)),
      )
    where
      shows_none : (row : MembershipRow) → shows_member row ≡ false
      shows_none row = rw unseen refl

  -- who sees it, is not strong and does not supervise it, is not shown the secret ones of others
  pub hidden_by_secret : (first : ℕ) → sees db viewer conference ≡ true → viewer.strong ≡ false →
      supervises db viewer.person conference ≡ false → IsDistinct nat_eq (map (λ row. row.person) members) →
      count_by (λ row. is_secret_membership row.kind
      && (is_far row.person && list_any (λ r. eqb r.person row.person) (take first members))) members
      ≡ hidden_members db viewer conference first
  unfolding shows_membership
  hidden_by_secret first seen weak by distinct =
      let among : MembershipRow → Bool = λ row. list_any (λ r. eqb r.person row.person) (take first members) in
      let found : MembershipRow → Bool =
      λ row. is_secret_membership row.kind && (is_far row.person && among row) in
      let hidden : MembershipRow → Bool = λ row. not (shows_member row) in
      omega (
        arith,
        length-filter found members,
        passing-alike found (λ row. hidden row && among row) members
            (all_of (λ row. found row ≡ (hidden row && among row)) (λ row. tells row (among row)) members),
        first_counted hidden members distinct first,
        length-filter hidden (take first members),
      )
    where
      tells : (row : MembershipRow) (among : Bool) →
          (is_secret_membership row.kind && (is_far row.person && among)) ≡ (not (shows_member row) && among)
      tells row among =
          rw (seen, weak, by)
          (cases (is_secret_membership row.kind) (eqb viewer.person row.person)
          (supervises db viewer.person row.person))
        where
          cases : (secret own by_person : Bool) →
              (secret && (not (own || by_person) && among))
              ≡ (not (true && (not secret || false || own || by_person || false)) && among)
          cases true true by_person = refl
          cases true false true = refl
          cases true false false = refl
          cases false own by_person = refl

-- ---- the memberships of a person
-- Rows whose positions count up pass a test below a bound as the first ones do.
positions_counted : (g : MembershipRow → Bool) (bound : ℕ) (rows : List MembershipRow) (first count : ℕ) →
    map (λ row. row.position) rows ≡ range_with_len first count →
    passing (λ row. g row && ltb row.position bound) rows ≡ passing g (take (bound - first) rows)
positions_counted g bound [] first count are = nothing (bound - first)
  where
    nothing : (n : ℕ) → 0 ≡ passing g (take n [])
    nothing zero = refl
    nothing (suc n) = refl
positions_counted g bound (row ∷ rows) first zero are = absurd (impossible are)
  where
    impossible : row.position ∷ map (λ one. one.position) rows ≡ [] → ⊥
    impossible e = cc
positions_counted g bound (row ∷ rows) first (suc count) are =
    let here : row.position ≡ first = cc in
    let later : map (λ one. one.position) rows ≡ range_with_len (first + 1) count = cc in
    let rest = positions_counted g bound rows (first + 1) count later in
    passing-cons (λ one. g one && ltb one.position bound) row rows
    ∙ elim (cases_lt first bound) [
      | inl less ↦
          let more : bound - first ≡ suc (bound - (first + 1)) = omega arith in
          omega (
            arith,
            rest,
            ap (λ n. passing g (take n (row ∷ rows))) more,
            passing-cons g row (take (bound - (first + 1)) rows),
            ap (λ b. one_if (g row && b)) (lt-ltb row.position bound (omega (arith, here))),
            ap one_if (and_true (g row)),
          )
      | inr past ↦
          let none : bound - first ≡ 0 = omega arith in
          let none_later : bound - (first + 1) ≡ 0 = omega arith in
          omega (
            arith,
            rest,
            ap (λ n. passing g (take n (row ∷ rows))) none,
            ap (λ n. passing g (take n rows)) none_later,
            ap (λ b. one_if (g row && b)) (le-ltb row.position bound (omega (arith, here))),
            ap one_if (and_right (g row) false refl),
          )
    ]
  where
    and_true : (b : Bool) → (b && true) ≡ b
    and_true true = refl
    and_true false = refl

module _ (db : Db) (viewer : Viewer) (person : ℕ) where
  abbrev rows : List MembershipRow
  rows = memberships_of db person

  abbrev is_shown : MembershipRow → Bool
  is_shown row = shows_membership db viewer row.person row.conference row.kind

  none_of_all : (first : ℕ) → AllByRecursion (λ row. is_shown row ≡ true) rows →
      0 ≡ hidden_memberships db viewer person first
  none_of_all first all =
      sym (sym (length-filter (is_hidden db viewer) (take first rows))
      ∙ passing-none (is_hidden db viewer) (take first rows)
      (all_first (λ row. is_hidden db viewer row ≡ false) first rows
      (all_weaker (λ row. is_shown row ≡ true) (λ row. is_hidden db viewer row ≡ false) (λ row shown. ap not shown) rows
      all)))

  pub none_if_strong : (first : ℕ) → AreThere db person → viewer.strong ≡ true →
      0 ≡ hidden_memberships db viewer person first
  none_if_strong first there strong =
      none_of_all first
      (all_weaker (IsKnown db viewer person there) (λ row. is_shown row ≡ true)
      (shown_strong db viewer person there strong) rows (all_known db viewer person there))

  pub none_if_own : (first : ℕ) → AreThere db person → eqb viewer.person person ≡ true →
      0 ≡ hidden_memberships db viewer person first
  none_if_own first there own =
      none_of_all first
      (all_weaker (IsKnown db viewer person there) (λ row. is_shown row ≡ true)
      (shown_own db viewer person there own) rows (all_known db viewer person there))

  pub hidden-short : (first : ℕ) → hidden_memberships db viewer person first ≤ length rows
  hidden-short first =
      omega (arith, count_by-le-length (is_hidden db viewer) (take first rows), length-take first rows)

  -- there are as many numbers of which every test says what it says of secret memberships
  pub secret_counted : (numbers : List ℕ) →
      ((test : ℕ → Bool) → count_by test numbers
      ≡ count_by (λ row. is_secret_membership row.kind && test row.conference) rows) →
      length numbers ≡ count_by (λ row. is_secret_membership row.kind) rows
  secret_counted numbers counted =
      omega (
        arith,
        counted (λ number. true),
        length-filter (λ number. true) numbers,
        passing-all (λ number. true) numbers (all_of (λ number. true ≡ true) (λ number. refl) numbers),
        length-filter (λ row. is_secret_membership row.kind && true) rows,
        length-filter (λ row. is_secret_membership row.kind) rows,
        passing-alike (λ row. is_secret_membership row.kind && true) (λ row. is_secret_membership row.kind) rows
            (all_of (λ row. (is_secret_membership row.kind && true) ≡ is_secret_membership row.kind)
            (λ row. and_true (is_secret_membership row.kind)) rows),
      )
    where
      and_true : (b : Bool) → (b && true) ≡ b
      and_true true = refl
      and_true false = refl

  -- the hidden ones are secret or not
  pub both_kinds : (first : ℕ) →
      count_by (λ row. is_secret_membership row.kind && is_hidden db viewer row) (take first rows)
      + count_by (λ row. not (is_secret_membership row.kind) && is_hidden db viewer row) (take first rows)
      ≡ hidden_memberships db viewer person first
  both_kinds first =
      omega (
        arith,
        length-filter (λ row. is_secret_membership row.kind && is_hidden db viewer row) (take first rows),
        length-filter (λ row. not (is_secret_membership row.kind) && is_hidden db viewer row) (take first rows),
        length-filter (is_hidden db viewer) (take first rows),
        passing-split (is_hidden db viewer) (λ row. is_secret_membership row.kind) (take first rows),
      )

  module _ (in_place : AreInPlace db person) (found : AreFound db person) where
    -- what a test says of those with an earlier place it says of the first
    before_counted : (g : MembershipRow → Bool) (first : ℕ) →
        passing (λ row. g row && is_before db person first row.conference) rows ≡ passing g (take first rows)
    before_counted g first =
        passing-alike (λ row. g row && is_before db person first row.conference)
        (λ row. g row && ltb row.position first) rows
        (all_weaker (λ row. membership_of db person row.conference ≡ Some row)
        (λ row. (g row && is_before db person first row.conference) ≡ (g row && ltb row.position first))
        (λ row is. ap (λ (o : Option MembershipRow).
        g row && (elim o [ None ↦ false | Some one ↦ ltb one.position first ])) is) rows found)
        ∙ positions_counted g first rows 0 (length rows) in_place
        ∙ ap (λ n. passing g (take n rows)) (omega arith)

    -- where a test of conferences says what another says of secret memberships
    pub hidden_secret : (first : ℕ) →
        count_by (λ row. is_secret_membership row.kind
        && (not (shows_membership db viewer person row.conference 32) && is_before db person first row.conference)) rows
        ≡ count_by (λ row. is_secret_membership row.kind && is_hidden db viewer row) (take first rows)
    unfolding shows_membership
    hidden_secret first =
        let before : MembershipRow → Bool = λ row. is_before db person first row.conference in
        let tells : MembershipRow → Bool = λ row. is_secret_membership row.kind
        && (not (shows_membership db viewer person row.conference 32) && before row) in
        let hidden : MembershipRow → Bool = λ row. is_secret_membership row.kind && is_hidden db viewer row in
        omega (
          arith,
          length-filter tells rows,
          passing-alike tells (λ row. hidden row && before row) rows
              (all_weaker
              (λ row. (row.person ≡ person) × (is_some (membership_of db person row.conference) ≡ true))
              (λ row. tells row ≡ (hidden row && before row)) (λ row own. same row (before row) own.0) rows
              (are_own db person)),
          before_counted hidden first,
          length-filter hidden (take first rows),
        )
      where
        same : (row : MembershipRow) (before : Bool) → row.person ≡ person →
            (is_secret_membership row.kind
            && (not (shows_membership db viewer person row.conference 32) && before))
            ≡ ((is_secret_membership row.kind && not (shows_membership db viewer row.person row.conference row.kind))
            && before)
        same row before own =
            rw own
            (by (is_secret_membership row.kind) (sees db viewer row.conference) viewer.strong (eqb viewer.person person)
            (supervises db viewer.person person) (supervises db viewer.person row.conference))
          where
            by : (secret seen strong own by_person by_conference : Bool) →
                (secret && (not (seen && (false || strong || own || by_person || by_conference)) && before))
                ≡ ((secret && not (seen && (not secret || strong || own || by_person || by_conference))) && before)
            by true seen strong own by_person by_conference = refl
            by false seen strong own by_person by_conference = refl

    pub hidden_plain : (first : ℕ) → AreThere db person →
        count_by (λ row. is_secret_in db row.conference
        && (is_unseen db viewer person row.conference && is_before db person first row.conference)) rows
        ≡ count_by (λ row. not (is_secret_membership row.kind) && is_hidden db viewer row) (take first rows)
    hidden_plain first there =
        let before : MembershipRow → Bool = λ row. is_before db person first row.conference in
        let tells : MembershipRow → Bool =
        λ row. is_secret_in db row.conference && (is_unseen db viewer person row.conference && before row) in
        let hidden : MembershipRow → Bool = λ row. not (is_secret_membership row.kind) && is_hidden db viewer row in
        omega (
          arith,
          length-filter tells rows,
          passing-alike tells (λ row. hidden row && before row) rows
              (all_weaker
              (λ row. IsKnown db viewer person there row × (membership_of db person row.conference ≡ Some row))
              (λ row. tells row ≡ (hidden row && before row)) (λ row both. same row (before row) both.0 both.1) rows
              (all_both (IsKnown db viewer person there) (λ row. membership_of db person row.conference ≡ Some row) rows
              (all_known db viewer person there) found)),
          before_counted hidden first,
          length-filter hidden (take first rows),
        )
      where
        by : (seen secret early : Bool) → (secret ≡ false → seen ≡ true) →
            (secret && (true && not seen && early)) ≡ ((true && not seen) && early)
        by true secret early opened = and_right secret false refl
        by false true early opened = refl
        by false false early opened = absurd (true≢false (sym (opened refl)))

        same : (row : MembershipRow) (before : Bool) → IsKnown db viewer person there row →
            membership_of db person row.conference ≡ Some row →
            (is_secret_in db row.conference
            && (is_plain_member db person row.conference && not (sees db viewer row.conference) && before))
            ≡ ((not (is_secret_membership row.kind) && is_hidden db viewer row) && before)
        same row before known is =
            let plain_is : is_plain_member db person row.conference ≡ not (is_secret_membership row.kind) =
            ap (λ (o : Option MembershipRow). elim o [ None ↦ false | Some one ↦ not (is_secret_membership one.kind) ])
            is in
            elim (cases_Bool (is_secret_membership row.kind)) [
              | inl secret ↦ rw (plain_is, secret) (and_right (is_secret_in db row.conference) false refl)
              | inr plain ↦ rw (plain_is, plain, shows-plain db viewer row.person row.conference row.kind plain)
                  (by (sees db viewer row.conference) (is_secret_in db row.conference) before
                  (sees-plain db viewer row.conference known.1))
            ]

    -- a place among those that are shown
    pub placed : (position : ℕ) →
        min (length rows) position - hidden_memberships db viewer person (min (length rows) position)
        ≡ length (filter (λ other. ltb other.position position && is_shown other) rows)
    placed position =
        let place : ℕ = min (length rows) position in
        omega (
          arith,
          length-filter (is_hidden db viewer) (take place rows),
          passing-not is_shown (take place rows),
          length-take place rows,
          ap (passing is_shown) take_least,
          passing-alike (λ other. ltb other.position position && is_shown other)
              (λ other. is_shown other && ltb other.position position) rows
              (all_of (λ other. (ltb other.position position && is_shown other)
              ≡ (is_shown other && ltb other.position position))
              (λ other. turned (ltb other.position position) (is_shown other)) rows),
          positions_counted is_shown position rows 0 (length rows) in_place,
          ap (λ n. passing is_shown (take n rows)) none_less,
        )
      where
        turned : (a b : Bool) → (a && b) ≡ (b && a)
        turned true true = refl
        turned true false = refl
        turned false true = refl
        turned false false = refl

        none_less : position - 0 ≡ position
        none_less = omega arith

        take_least : take (min (length rows) position) rows ≡ take position rows
        take_least = elim (cases_lt (length rows) position) [
          | inl less ↦
              take_all (min (length rows) position) rows (omega arith) ∙ sym (take_all position rows (omega arith))
          | inr within ↦ let least : min (length rows) position ≡ position = omega arith in
              ap (λ n. take n rows) least
        ]
