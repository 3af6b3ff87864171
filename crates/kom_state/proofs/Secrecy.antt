-- A person's memberships in secret conferences are found by these conferences.
use Rattle.std.proofs.Common.{◌≡◌, ℕ, ◌+◌, Bool, true, false, cond, ◌&&◌, ◌||◌, eqb, nat_eq, List, [], ◌∷◌, map, filter}
use Rattle.std.proofs.Common.{find, Option, Some, None, is_some, refl, sym, ap, subst, ◌∙◌, inl, inr, arith}
use Rattle.std.specs.List.{AllByRecursion, IsDistinct, list_any}
use Rattle.std.specs.Cmp.{nat_eq_equiv}
use Rattle.std.proofs.lemmas.Bool.{cases_Bool, eqb-true, eq-eqb, ne_eqb, or_left, and_parts, and_from, true≢false}
use Rattle.std.proofs.lemmas.List.Sums.{length-filter}
use Rattle.std.proofs.lemmas.Map.Keys.{IsDistinct-head, IsDistinct-tail}
use Rattle.row_table.specs.Tables.{row_of, AllAbove, IsByNumber}
use Rattle.kom_types.specs.declared.conferences.ConferenceRow.{ConferenceRow}
use Rattle.kom_types.specs.declared.memberships.MembershipRow.{MembershipRow}
use Rattle.kom_types.specs.tables.Conferences.{number_of_conference, is_secret_conference}
use Rattle.kom_types.specs.tables.Memberships as Memberships
use Rattle.kom_types.specs.tables.Memberships.{is_membership}
use Rattle.memberships.specs.Entries.{same_key}
use Rattle.memberships.specs.Secrets.{one_if}
use Rattle.memberships.specs.Table.{IsOrderly}
use Rattle.memberships.proofs.Counting.{passing, passing-cons, passing-memberships_of}
use Rattle.kom_model.specs.Db.{Db, conference_of, membership_of, memberships_of}
use Rattle.kom_state.specs.Secrecy.{AreFoundBySecret}

-- ---- counts
module _ {X : Type 0} where
  passing-none : (xs : List X) → passing (λ (x : X). false) xs ≡ 0
  passing-none [] = refl
  passing-none (x ∷ xs) = passing-none xs

  passing-same : (p q : X → Bool) → ((x : X) → p x ≡ q x) → (xs : List X) → passing p xs ≡ passing q xs
  passing-same p q same xs = λ i. passing (λ x. same x i) xs

  -- what passes one of two tests of which none passes both
  passing-either : (p q also : X → Bool) → ((x : X) → p x ≡ true → q x ≡ false) → (xs : List X) →
      passing (λ x. (p x || q x) && also x) xs ≡ passing (λ x. p x && also x) xs + passing (λ x. q x && also x) xs
  passing-either p q also apart [] = refl
  passing-either p q also apart (x ∷ xs) =
      omega (
        arith,
        passing-cons (λ x. (p x || q x) && also x) x xs,
        passing-cons (λ x. p x && also x) x xs,
        passing-cons (λ x. q x && also x) x xs,
        passing-either p q also apart xs,
        one (p x) (q x) (also x) (apart x),
      )
    where
      one : (a b c : Bool) → (a ≡ true → b ≡ false) → one_if ((a || b) && c) ≡ one_if (a && c) + one_if (b && c)
      one true true c apart = absurd (true≢false (apart refl))
      one true false c apart = omega arith
      one false b c apart = omega arith

-- ---- the secret conferences
abbrev numbers_of_secret : List ConferenceRow → List ℕ
numbers_of_secret rows = map number_of_conference (filter (λ row. is_secret_conference row.kind) rows)

abbrev is_secret_among : List ConferenceRow → ℕ → Bool
is_secret_among rows number =
    elim (row_of number_of_conference number rows) [ None ↦ false | Some row ↦ is_secret_conference row.kind ]

-- no conference above a number has it
none_above : (number : ℕ) (rows : List ConferenceRow) → AllAbove number_of_conference number rows →
    list_any (nat_eq number) (numbers_of_secret rows) ≡ false
none_above number [] above = refl
none_above number (row ∷ rows) above = elim (cases_Bool (is_secret_conference row.kind)) [
  | inl secret ↦ rw (secret, ne_eqb number row.number (λ same. absurd (omega (arith, same, above.0))))
      (none_above number rows above.1)
  | inr plain ↦ rw plain (none_above number rows above.1)
]

among_first : (number : ℕ) (row : ConferenceRow) (rows : List ConferenceRow) → is_secret_among (row ∷ rows) number
    ≡ cond (eqb row.number number) (is_secret_conference row.kind) (is_secret_among rows number)
among_first number row rows =
    elim (eqb row.number number) as
    (λ b. (elim (cond b (Some row) (row_of number_of_conference number rows)) [
      | None ↦ false
      | Some one ↦ is_secret_conference one.kind
    ]) ≡ cond b (is_secret_conference row.kind) (is_secret_among rows number)) [
      | true ↦ refl
      | false ↦ refl
    ]

-- a number is among those of the secret conferences where its conference is secret
secret_first : (number : ℕ) (row : ConferenceRow) (rows : List ConferenceRow) →
    AllAbove number_of_conference row.number rows →
    list_any (nat_eq number) (numbers_of_secret rows) ≡ is_secret_among rows number →
    list_any (nat_eq number) (numbers_of_secret (row ∷ rows))
    ≡ cond (eqb row.number number) (is_secret_conference row.kind) (is_secret_among rows number)
secret_first number row rows above later = elim (cases_Bool (is_secret_conference row.kind)) [
  | inl secret ↦ elim (cases_Bool (eqb row.number number)) [
    | inl is ↦ rw (secret, is)
        (or_left (eqb number row.number) (list_any (nat_eq number) (numbers_of_secret rows))
        (nat_eq_equiv.symm number row.number ∙ is))
    | inr other ↦ rw (secret, other, nat_eq_equiv.symm number row.number ∙ other) later
  ]
  | inr plain ↦ elim (cases_Bool (eqb row.number number)) [
    | inl is ↦ rw (plain, is)
        (none_above number rows
        (subst (λ n. AllAbove number_of_conference n rows) (eqb-true row.number number is) above))
    | inr other ↦ rw (plain, other) later
  ]
]

secret_found : (number : ℕ) (rows : List ConferenceRow) → IsByNumber number_of_conference rows →
    list_any (nat_eq number) (numbers_of_secret rows) ≡ is_secret_among rows number
secret_found number [] rises = refl
secret_found number (row ∷ rows) rises =
    secret_first number row rows rises.0 (secret_found number rows rises.1) ∙ sym (among_first number row rows)

-- as often as a number is among them it passes a test
count_own : (number : ℕ) (test : ℕ → Bool) (rows : List ConferenceRow) → IsByNumber number_of_conference rows →
    passing (λ n. nat_eq number n && test n) (numbers_of_secret rows)
    ≡ one_if (list_any (nat_eq number) (numbers_of_secret rows) && test number)
count_own number test [] rises = refl
count_own number test (row ∷ rows) rises = elim (cases_Bool (is_secret_conference row.kind)) [
  | inl secret ↦ rw secret
      (elim (cases_Bool (nat_eq number row.number)) [
        | inl is ↦
            let same : number ≡ row.number = eqb-true number row.number is in
            let none : list_any (nat_eq number) (numbers_of_secret rows) ≡ false =
            none_above number rows (subst (λ n. AllAbove number_of_conference n rows) (sym same) rises.0) in
            omega (
              arith,
              passing-cons (λ n. nat_eq number n && test n) row.number (numbers_of_secret rows),
              count_own number test rows rises.1,
              ap (λ b. one_if (b && test number)) none,
              ap (λ b. one_if (b && test row.number)) is,
              ap (λ b. one_if ((b || list_any (nat_eq number) (numbers_of_secret rows)) && test number)) is,
              ap (λ n. one_if (test n)) same,
            )
        | inr other ↦
            omega (
              arith,
              passing-cons (λ n. nat_eq number n && test n) row.number (numbers_of_secret rows),
              count_own number test rows rises.1,
              ap (λ b. one_if (b && test row.number)) other,
              ap (λ b. one_if ((b || list_any (nat_eq number) (numbers_of_secret rows)) && test number)) other,
            )
      ])
  | inr plain ↦ rw plain (count_own number test rows rises.1)
]

-- ---- the memberships of a person
-- after a membership none is of the same person and conference
pub none_after : (p c : ℕ) (row : MembershipRow) (rows : List MembershipRow) → is_membership p c row ≡ true →
    AllByRecursion (λ key. same_key (row.person, row.conference) key ≡ false)
    (map (λ r. (r.person, r.conference)) rows) → is_some (find (is_membership p c) rows) ≡ false
none_after p c row [] is all = refl
none_after p c row (r ∷ rows) is all = elim (cases_Bool (is_membership p c r)) [
  | inl its ↦
      let one = and_parts _ _ is in
      let two = and_parts _ _ its in
      absurd (true≢false
      (sym (and_from _ _
      (eq-eqb row.person r.person (eqb-true row.person p one.0 ∙ sym (eqb-true r.person p two.0)))
      (eq-eqb row.conference r.conference (eqb-true row.conference c one.1 ∙ sym (eqb-true r.conference c two.1))))
      ∙ all.0))
  | inr other ↦ rw other (none_after p c row rows is all.1)
]

some_first : (found : Bool) (row : MembershipRow) (later : Option MembershipRow) →
    is_some (cond found (Some row) later) ≡ (found || is_some later)
some_first true row later = refl
some_first false row later = refl

module _ (conferences : List ConferenceRow) (rises : IsByNumber number_of_conference conferences) (p : ℕ)
    (test : ℕ → Bool) where
  abbrev is_told : MembershipRow → Bool
  is_told row = is_secret_among conferences row.conference && test row.conference

  of_one : (row : MembershipRow) →
      passing (λ c. is_membership p c row && test c) (numbers_of_secret conferences)
      ≡ one_if (eqb row.person p && is_told row)
  of_one row = by (eqb row.person p)
    where
      by : (own : Bool) →
          passing (λ c. (own && eqb row.conference c) && test c) (numbers_of_secret conferences)
          ≡ one_if (own && is_told row)
      by true = count_own row.conference test conferences rises
          ∙ ap (λ b. one_if (b && test row.conference)) (secret_found row.conference conferences rises)
      by false = passing-none (numbers_of_secret conferences)

  of_all : (rows : List MembershipRow) →
      IsDistinct same_key (map (λ row. (row.person, row.conference)) rows) →
      passing (λ c. is_some (Memberships.membership_of p c rows) && test c) (numbers_of_secret conferences)
      ≡ passing (λ row. eqb row.person p && is_told row) rows
  of_all [] once = passing-none (numbers_of_secret conferences)
  of_all (row ∷ rows) once =
      let later : ℕ → Bool = λ c. is_some (Memberships.membership_of p c rows) in
      omega (
        arith,
        passing-same (λ c. is_some (Memberships.membership_of p c (row ∷ rows)) && test c)
            (λ c. (is_membership p c row || later c) && test c)
            (λ c. ap (λ b. b && test c) (some_first (is_membership p c row) row (Memberships.membership_of p c rows)))
            (numbers_of_secret conferences),
        passing-either (λ c. is_membership p c row) later test
            (λ c is. none_after p c row rows is
            (IsDistinct-head same_key (row.person, row.conference) (map (λ r. (r.person, r.conference)) rows) once))
            (numbers_of_secret conferences),
        of_one row,
        of_all rows
            (IsDistinct-tail same_key (row.person, row.conference) (map (λ r. (r.person, r.conference)) rows) once),
        passing-cons (λ row. eqb row.person p && is_told row) row rows,
      )

pub found_by_secret : (db : Db) (person : ℕ) → IsByNumber number_of_conference db.conferences →
    IsOrderly db.memberships → AreFoundBySecret db person
unfolding conference_of membership_of memberships_of
found_by_secret db person rises orderly =
    λ test.
    omega (
      arith,
      length-filter (λ c. is_some (Memberships.membership_of person c db.memberships) && test c)
          (numbers_of_secret db.conferences),
      of_all db.conferences rises person test db.memberships orderly.once,
      passing-memberships_of (λ row. is_secret_among db.conferences row.conference && test row.conference) person
          db.memberships,
      length-filter
          (λ (row : MembershipRow). is_secret_among db.conferences row.conference && test row.conference)
          (Memberships.memberships_of person db.memberships),
    )
