-- The lists of secret memberships: what they tell, and how they follow each change of a table.
use Rattle.std.proofs.Common.{◌≡◌, ℕ, ◌+◌, ◌<◌, Bool, true, false, ◌&&◌, eqb, nat_eq, List, [], ◌∷◌, map, Some, None}
use Rattle.std.proofs.Common.{inl, inr, refl, sym, ◌∙◌, ap, subst, arith}
use Rattle.std.specs.List.{AllByRecursion, IsDistinct, count_by}
use Rattle.std.specs.Set.{is_member, remove_key}
use Rattle.std.proofs.lemmas.Bool.{cases_Bool, cases_eq, eq-eqb, eqb-true, ne_eqb, and_right, false≢true, true≢false}
use Rattle.std.proofs.lemmas.List.Sums.{length-filter}
use Rattle.std.proofs.lemmas.Map.Keys.{IsDistinct-head, IsDistinct-tail, IsDistinct-cons}
use Rattle.kom_types.specs.declared.memberships.MembershipRow.{MembershipRow}
use Rattle.kom_types.specs.tables.Memberships.{is_secret_membership, membership_of, members_of, memberships_of}
use Rattle.kom_types.specs.tables.Memberships.{without_membership, with_membership}
use Rattle.read_ranges.specs.Reads.{read_at}
use Rattle.row_slots.specs.declared.lists.Lists.{Lists}
use Rattle.row_slots.specs.Lists.{list_of, HasOnlyChanged}
use Rattle.memberships.specs.declared.kept.Kept.{Kept}
use Rattle.memberships.specs.Entries.{same_key, kept_row}
use Rattle.memberships.specs.Secrets.{is_secret_of, is_secret_in, AreSecrets, one_if}
use Rattle.memberships.proofs.Counting.{passing, passing-cons, passing-filter, passing-memberships_of, passing-new}
use Rattle.memberships.proofs.Counting.{passing-again, passing-left, passing-read}

-- ---- what the lists tell

-- as many of a list pass a test as memberships do
pub secret_of_person : (rows : List MembershipRow) (of_persons in_conferences : ℕ → List ℕ) →
    AreSecrets rows of_persons in_conferences → (person : ℕ) (test : ℕ → Bool) →
    count_by test (of_persons person)
    ≡ count_by (λ row. is_secret_membership row.kind && test row.conference) (memberships_of person rows)
secret_of_person rows of_persons in_conferences secrets person test =
    secrets.persons person test ∙ sym (length-filter (is_secret_of person test) rows)
    ∙ sym (passing-memberships_of (λ row. is_secret_membership row.kind && test row.conference) person rows)
    ∙ length-filter (λ (row : MembershipRow). is_secret_membership row.kind && test row.conference)
    (memberships_of person rows)

pub secret_in_conference : (rows : List MembershipRow) (of_persons in_conferences : ℕ → List ℕ) →
    AreSecrets rows of_persons in_conferences → (conference : ℕ) (test : ℕ → Bool) →
    count_by test (in_conferences conference)
    ≡ count_by (λ row. is_secret_membership row.kind && test row.person) (members_of conference rows)
secret_in_conference rows of_persons in_conferences secrets conference test =
    secrets.conferences conference test ∙ sym (length-filter (is_secret_in conference test) rows)
    ∙ sym (passing-filter (λ row. is_secret_membership row.kind && test row.person)
    (λ (row : MembershipRow). eqb row.conference conference) rows)
    ∙ length-filter (λ (row : MembershipRow). is_secret_membership row.kind && test row.person)
    (members_of conference rows)

-- no person is in a conference twice
pub distinct_members : (conference : ℕ) (rows : List MembershipRow) →
    IsDistinct same_key (map (λ row. (row.person, row.conference)) rows) →
    IsDistinct nat_eq (map (λ row. row.person) (members_of conference rows))
unfolding IsDistinct
distinct_members conference [] distinct = tt
distinct_members conference (row ∷ rows) distinct = elim (cases_Bool (eqb row.conference conference)) [
  | inl is ↦ rw is
      (IsDistinct-cons nat_eq row.person (map (λ r. r.person) (members_of conference rows))
      (others is rows (IsDistinct-head same_key (row.person, row.conference)
      (map (λ r. (r.person, r.conference)) rows) distinct))
      (distinct_members conference rows
      (IsDistinct-tail same_key (row.person, row.conference) (map (λ r. (r.person, r.conference)) rows) distinct)))
  | inr other ↦ rw other
      (distinct_members conference rows
      (IsDistinct-tail same_key (row.person, row.conference) (map (λ r. (r.person, r.conference)) rows) distinct))
]
  where
    others : eqb row.conference conference ≡ true → (rest : List MembershipRow) →
        AllByRecursion (λ key. same_key (row.person, row.conference) key ≡ false)
        (map (λ r. (r.person, r.conference)) rest) →
        AllByRecursion (λ person. nat_eq row.person person ≡ false) (map (λ r. r.person) (members_of conference rest))
    others is [] all = tt
    others is (r ∷ rest) all = elim (cases_Bool (eqb r.conference conference)) [
      | inl its ↦ rw its (
        left (eqb row.person r.person) (eqb row.conference r.conference) all.0
            (eq-eqb row.conference r.conference
            (eqb-true row.conference conference is ∙ sym (eqb-true r.conference conference its))),
        others is rest all.1,
      )
      | inr unlike ↦ rw unlike (others is rest all.1)
    ]
      where
        left : (a b : Bool) → (a && b) ≡ false → b ≡ true → a ≡ false
        left true b both so = absurd (true≢false (sym so ∙ both))
        left false b both so = refl

-- all lists are empty where there are no memberships
pub AreSecrets-empty : (rows : List MembershipRow) (of_persons in_conferences : ℕ → List ℕ) → rows ≡ [] →
    ((person : ℕ) → of_persons person ≡ []) → ((conference : ℕ) → in_conferences conference ≡ []) →
    AreSecrets rows of_persons in_conferences
AreSecrets-empty rows of_persons in_conferences none persons conferences = rw none (record {
  persons = λ person test. ap (count_by test) (persons person);
  conferences = λ conference test. ap (count_by test) (conferences conference);
})

-- ---- how they follow

-- at a key one counts now if `now`, where one counted if `was`; at all other keys nothing has changed
pub record Recounts (old new : ℕ → ℕ) (key : ℕ) (was now : Bool) : Type 0 where
  pub here : new key + one_if was ≡ old key + one_if now
  pub others : (other : ℕ) → (other ≡ key → ⊥) → new other ≡ old other

-- where that is so of every key by whether it is this one
recounts : (old new : ℕ → ℕ) (key : ℕ) (was now : Bool) →
    ((k : ℕ) → new k + one_if (eqb key k && was) ≡ old k + one_if (eqb key k && now)) → Recounts old new key was now
recounts old new key was now each = record {
  here = omega (
    arith,
    each key,
    ap (λ b. one_if (b && was)) (eq-eqb key key refl),
    ap (λ b. one_if (b && now)) (eq-eqb key key refl),
  );
  others = λ other unlike.
      let apart : eqb key other ≡ false = ne_eqb key other (λ e. unlike (sym e)) in
      omega (arith, each other, ap (λ b. one_if (b && was)) apart, ap (λ b. one_if (b && now)) apart);
}

-- what follows a count as it changes is the count still
follows : (counts counts_now tallies tallies_now : ℕ → ℕ) (key : ℕ) (was now : Bool) →
    Recounts counts counts_now key was now → Recounts tallies tallies_now key was now →
    ((k : ℕ) → tallies k ≡ counts k) → (k : ℕ) → tallies_now k ≡ counts_now k
follows counts counts_now tallies tallies_now key was now count tally same k = elim (cases_eq k key) [
  | inl is ↦ subst (λ j. tallies_now j ≡ counts_now j) (sym is) (omega (arith, count.here, tally.here, same key))
  | inr unlike ↦ tally.others k unlike ∙ same k ∙ sym (count.others k unlike)
]

-- how many secret memberships of a person, and in a conference, pass a test
abbrev pub secret_of : (ℕ → Bool) → List MembershipRow → ℕ → ℕ
secret_of test rows person = passing (is_secret_of person test) rows

abbrev pub secret_in : (ℕ → Bool) → List MembershipRow → ℕ → ℕ
secret_in test rows conference = passing (is_secret_in conference test) rows

-- a membership of a person in a conference is secret if `now`, where one was if `was`, and all others are as they were
pub record Changes (old new : List MembershipRow) (person conference : ℕ) (was now : Bool) : Type 0 where
  pub persons : (test : ℕ → Bool) →
      Recounts (secret_of test old) (secret_of test new) person (was && test conference) (now && test conference)
  pub conferences : (test : ℕ → Bool) →
      Recounts (secret_in test old) (secret_in test new) conference (was && test person) (now && test person)

-- whether a membership is a secret one of a person, or in a conference, by its person, conference and kind
abbrev secret_by : (ℕ → Bool) → ℕ → ℕ → ℕ → ℕ → Bool
secret_by test p person conference kind = eqb person p && (is_secret_membership kind && test conference)

abbrev secret_at : (ℕ → Bool) → ℕ → ℕ → ℕ → ℕ → Bool
secret_at test c person conference kind = eqb conference c && (is_secret_membership kind && test person)

-- so it is with a new membership, with one that is set again, and with one that is taken out
pub changes_new : (given : MembershipRow) (old new : List MembershipRow) → new ≡ with_membership given old →
    membership_of given.person given.conference old ≡ None →
    Changes old new given.person given.conference false (is_secret_membership given.kind)
changes_new given old new is absent =
    rw is
    (record {
      persons = λ test. recounts (secret_of test old) (secret_of test (with_membership given old)) given.person false
          (is_secret_membership given.kind && test given.conference)
          (λ p. omega (
            arith,
            passing-new (secret_by test p) given old absent,
            ap one_if (and_right (eqb given.person p) false refl),
          ));
      conferences = λ test. recounts (secret_in test old) (secret_in test (with_membership given old)) given.conference
          false
          (is_secret_membership given.kind && test given.person)
          (λ c. omega (
            arith,
            passing-new (secret_at test c) given old absent,
            ap one_if (and_right (eqb given.conference c) false refl),
          ));
    })

pub changes_again : (given : MembershipRow) (place : ℕ) (kept : Kept) (old new : List MembershipRow) →
    new ≡ with_membership given old → IsDistinct same_key (map (λ row. (row.person, row.conference)) old) →
    membership_of given.person given.conference old ≡ Some (kept_row given.person given.conference place kept) →
    Changes old new given.person given.conference (is_secret_membership kept.kind) (is_secret_membership given.kind)
changes_again given place kept old new is once there =
    let row : MembershipRow = kept_row given.person given.conference place kept in
    rw is
    (record {
      persons = λ test. recounts (secret_of test old) (secret_of test (with_membership given old)) given.person
          (is_secret_membership kept.kind && test given.conference)
          (is_secret_membership given.kind && test given.conference)
          (λ p. passing-again (secret_by test p) given row old once there);
      conferences = λ test. recounts (secret_in test old) (secret_in test (with_membership given old)) given.conference
          (is_secret_membership kept.kind && test given.person)
          (is_secret_membership given.kind && test given.person)
          (λ c. passing-again (secret_at test c) given row old once there);
    })

pub changes_left : (p c place : ℕ) (kept : Kept) (old new : List MembershipRow) →
    new ≡ without_membership p c old → IsDistinct same_key (map (λ row. (row.person, row.conference)) old) →
    membership_of p c old ≡ Some (kept_row p c place kept) →
    Changes old new p c (is_secret_membership kept.kind) false
changes_left p c place kept old new is once there =
    let row : MembershipRow = kept_row p c place kept in
    rw is
    (record {
      persons = λ test. recounts (secret_of test old) (secret_of test (without_membership p c old)) p
          (is_secret_membership kept.kind && test c) false
          (λ q. omega (
            arith,
            passing-left (secret_by test q) p c row old once there,
            ap one_if (and_right (eqb p q) false refl),
          ));
      conferences = λ test. recounts (secret_in test old) (secret_in test (without_membership p c old)) c
          (is_secret_membership kept.kind && test p) false
          (λ d. omega (
            arith,
            passing-left (secret_at test d) p c row old once there,
            ap one_if (and_right (eqb c d) false refl),
          ));
    })

-- the list of a key has a number now if `now`, where it had it if `was`; all else is as it was
pub record Relists (old new : ℕ → List ℕ) (key number : ℕ) (was now : Bool) : Type 0 where
  pub here : (test : ℕ → Bool) → count_by test (new key) + one_if (was && test number)
      ≡ count_by test (old key) + one_if (now && test number)
  pub others : (other : ℕ) → (other ≡ key → ⊥) → new other ≡ old other

pub relisted : (old new : Lists) (key number : ℕ) (was now : Bool) →
    ((test : ℕ → Bool) → count_by test (list_of new key) + one_if (was && test number)
    ≡ count_by test (list_of old key) + one_if (now && test number)) → HasOnlyChanged old new key →
    Relists (list_of old) (list_of new) key number was now
relisted old new key number was now here only = record { here = here; others = only.lists }

-- so its numbers that pass a test are counted
counted : (old new : ℕ → List ℕ) (key number : ℕ) (was now : Bool) → Relists old new key number was now →
    (test : ℕ → Bool) →
    Recounts (λ k. count_by test (old k)) (λ k. count_by test (new k)) key (was && test number) (now && test number)
counted old new key number was now relists test = record {
  here = relists.here test;
  others = λ other unlike. ap (count_by test) (relists.others other unlike);
}

-- without a number that is there, it alone is not counted
passing_without : (test : ℕ → Bool) (number : ℕ) (list : List ℕ) → is_member nat_eq list number ≡ true →
    passing test (remove_key (nat_eq number) list) + one_if (test number) ≡ passing test list
passing_without test number [] there = absurd (false≢true there)
passing_without test number (first ∷ list) there = elim (cases_Bool (nat_eq number first)) [
  | inl is ↦ rw is
      (omega (arith, passing-cons test first list, ap (λ n. one_if (test n)) (eqb-true number first is)))
  | inr other ↦ rw other
      (omega (
        arith,
        passing-cons test first (remove_key (nat_eq number) list),
        passing-cons test first list,
        passing_without test number list (rw other at there),
      ))
]

pub counted_without : (test : ℕ → Bool) (number : ℕ) (list : List ℕ) → is_member nat_eq list number ≡ true →
    count_by test (remove_key (nat_eq number) list) + one_if (test number) ≡ count_by test list
counted_without test number list there =
    omega (
      arith,
      length-filter test (remove_key (nat_eq number) list),
      length-filter test list,
      passing_without test number list there,
    )

-- one that is counted is there
pub counted_there : (number : ℕ) (list : List ℕ) → 0 < count_by (nat_eq number) list →
    is_member nat_eq list number ≡ true
counted_there number [] some = absurd (omega (arith, some))
counted_there number (first ∷ list) some = elim (cases_Bool (nat_eq number first)) [
  | inl is ↦ rw is refl
  | inr other ↦ rw other (counted_there number list (rw other at some))
]

module _ (old new : List MembershipRow) (of_persons in_conferences : ℕ → List ℕ)
    (secrets : AreSecrets old of_persons in_conferences) where
  -- what is counted of the lists are the memberships
  of_person : (test : ℕ → Bool) (person : ℕ) → count_by test (of_persons person) ≡ secret_of test old person
  of_person test person = secrets.persons person test ∙ sym (length-filter (is_secret_of person test) old)

  in_conference : (test : ℕ → Bool) (conference : ℕ) →
      count_by test (in_conferences conference) ≡ secret_in test old conference
  in_conference test conference =
      secrets.conferences conference test ∙ sym (length-filter (is_secret_in conference test) old)

  -- the same rows but for positions and moments
  pub AreSecrets-read : (p c at : ℕ) → new ≡ read_at p c at old → AreSecrets new of_persons in_conferences
  AreSecrets-read p c at is =
      rw is
      (record {
        persons = λ person test. of_person test person ∙ sym (passing-read (secret_by test person) p c at old)
            ∙ length-filter (is_secret_of person test) (read_at p c at old);
        conferences = λ conference test. in_conference test conference
            ∙ sym (passing-read (secret_at test conference) p c at old)
            ∙ length-filter (is_secret_in conference test) (read_at p c at old);
      })

  module _ (person conference : ℕ) (was now : Bool) (changes : Changes old new person conference was now) where
    -- lists that follow are those of the memberships still
    pub AreSecrets-after : (of_persons_now in_conferences_now : ℕ → List ℕ) →
        Relists of_persons of_persons_now person conference was now →
        Relists in_conferences in_conferences_now conference person was now →
        AreSecrets new of_persons_now in_conferences_now
    AreSecrets-after of_persons_now in_conferences_now persons conferences = record {
      persons = λ p test.
          follows (secret_of test old) (secret_of test new) (λ k. count_by test (of_persons k))
          (λ k. count_by test (of_persons_now k)) person (was && test conference) (now && test conference)
          (changes.persons test) (counted of_persons of_persons_now person conference was now persons test)
          (of_person test) p
          ∙ length-filter (is_secret_of p test) new;
      conferences = λ c test.
          follows (secret_in test old) (secret_in test new) (λ k. count_by test (in_conferences k))
          (λ k. count_by test (in_conferences_now k)) conference (was && test person) (now && test person)
          (changes.conferences test)
          (counted in_conferences in_conferences_now conference person was now conferences test)
          (in_conference test) c
          ∙ length-filter (is_secret_in c test) new;
    }

    -- a number that is taken out of a list is there
    pub person_there : was ≡ true → now ≡ false → is_member nat_eq (of_persons person) conference ≡ true
    person_there one none =
        counted_there conference (of_persons person)
        (omega (
          arith,
          (changes.persons (nat_eq conference)).here,
          of_person (nat_eq conference) person,
          ap (λ (b : Bool). one_if (b && nat_eq conference conference)) one,
          ap (λ (b : Bool). one_if (b && nat_eq conference conference)) none,
          ap one_if (eq-eqb conference conference refl),
        ))

    pub conference_there : was ≡ true → now ≡ false → is_member nat_eq (in_conferences conference) person ≡ true
    conference_there one none =
        counted_there person (in_conferences conference)
        (omega (
          arith,
          (changes.conferences (nat_eq person)).here,
          in_conference (nat_eq person) conference,
          ap (λ (b : Bool). one_if (b && nat_eq person person)) one,
          ap (λ (b : Bool). one_if (b && nat_eq person person)) none,
          ap one_if (eq-eqb person person refl),
        ))
