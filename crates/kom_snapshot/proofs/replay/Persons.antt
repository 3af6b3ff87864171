-- The persons of a snapshot come again, but for their next numbers and how many sessions were counted.
use Rattle.std.proofs.Common.{◌≡◌, ℕ, ◌+◌, ◌≤◌, min, true, ◌==◌, List, [], ◌∷◌, ◌++◌, length}
use Rattle.std.proofs.Common.{refl, sym, ◌∙◌, ap, subst, arith, append_assoc, inl, inr, eqb-true}
use Rattle.std.specs.Prelude.{map, flat_map, is_none, is_some, if◌then◌else◌}
use Rattle.std.specs.List.{AllByRecursion}
use Rattle.std.proofs.lemmas.Bool.{and_from, cases_Bool, le-leb}
use Rattle.std.proofs.lemmas.List.{map-append, append-nil}
use Rattle.row_table.specs.Tables.{row_of, changed_row, IsByNumber}
use Rattle.kom_types.specs.declared.limits.TheConstants.{LONGEST_USER_NAME}
use Rattle.kom_types.specs.declared.effects.Counter.{Counter}
use Rattle.kom_types.specs.declared.effects.Counter.TheVariants as counter
use Rattle.kom_types.specs.declared.effects.Effect.TheVariants as effect
use Rattle.kom_types.specs.declared.effects.PersonField.TheVariants as person_field
use Rattle.kom_types.specs.declared.persons.PersonRow.{PersonRow}
use Rattle.kom_types.specs.tables.Persons as Persons
use Rattle.kom_types.specs.tables.Persons.{number_of_person, fresh_person, with_hash, logged_in, count_up, last_count}
use Rattle.kom_types.specs.tables.Persons.{raise_by}
use Rattle.kom_model.specs.Db.{Db, conference_of, person_of}
use Rattle.kom_model.specs.Effects.{fits, after_effect, has_letterbox}
use Rattle.kom_snapshot.specs.Listed.{IsListedPerson}
use Rattle.kom_snapshot.specs.Snap.{person_effects, count_effects, count_effect, unless_zero}
use Rattle.kom_snapshot.proofs.replay.Replaying.{Replays, replays-none, replays-one, replays-append, replays-unless}
use Rattle.kom_snapshot.proofs.replay.Replaying.{replays-same}
use Rattle.kom_snapshot.proofs.replay.Tables.{ones, AllBelow, all-at, below-one, below-mapped, row-last, row-there}
use Rattle.kom_snapshot.proofs.replay.Tables.{row-absent, row-changed}

-- one session, where any was counted
abbrev pub begun : ℕ → ℕ
begun sessions = if sessions == 0 then 0 else 1

-- a person with this next number of the texts that it made
abbrev pub person_as : (ℕ → ℕ) → PersonRow → PersonRow
person_as created row = record row { next_created = created row.number; sessions = begun row.sessions }

abbrev pub bare_person : PersonRow → PersonRow
bare_person = person_as ones

abbrev pub persons_in : Db → List PersonRow → Db
persons_in db rows = record db { persons = rows }

-- the last person is changed by an effect that asks no more than that it is there
module _ (db : Db) (front : List PersonRow) (row : PersonRow) (below : AllBelow number_of_person row.number front) where
  there : is_some (row_of number_of_person row.number (front ++ row ∷ [])) ≡ true
  there = ap is_some (row-there number_of_person row front [] below)

  changed : (change : PersonRow → PersonRow) → (new : PersonRow) → change row ≡ new →
      record db { persons = changed_row number_of_person row.number change (front ++ row ∷ []) }
      ≡ persons_in db (front ++ new ∷ [])
  changed change new same =
      ap (persons_in db) (row-changed number_of_person row change front [] below tt
      ∙ ap (λ (one : PersonRow). front ++ one ∷ []) same)

  area-step : (text : ℕ) → Replays (effect.PersonField row.number (person_field.UserArea text) ∷ [])
      (persons_in db (front ++ row ∷ [])) (persons_in db (front ++ (record row { user_area = text }) ∷ []))
  unfolding fits after_effect person_of
  area-step text = replays-one _ _ _ there
      (changed (Persons.with_field (person_field.UserArea text)) (record row { user_area = text }) refl)

  hash-step : (hash : List ℕ) → Replays (effect.Password row.number hash ∷ [])
      (persons_in db (front ++ row ∷ [])) (persons_in db (front ++ (record row { hash = hash }) ∷ []))
  unfolding fits after_effect person_of
  hash-step hash = replays-one _ _ _ there (changed (with_hash hash) (record row { hash = hash }) refl)

  login-step : (user : List ℕ) → length user ≤ LONGEST_USER_NAME → row.sessions ≡ 0 →
      Replays (effect.LoggedIn row.number row.last_login user ∷ []) (persons_in db (front ++ row ∷ []))
      (persons_in db (front ++ (record row { user = user; sessions = 1 }) ∷ []))
  unfolding fits after_effect person_of
  login-step user short none = replays-one _ _ _ (and_from _ _ there (le-leb (length user) LONGEST_USER_NAME short))
      (changed (logged_in row.last_login user) (record row { user = user; sessions = 1 })
      (ap (λ n. record row { user = user; sessions = n }) (once row.sessions none)))
    where
      once : (count : ℕ) → count ≡ 0 → min (count + 1) last_count ≡ 1
      once count none = omega (arith, none)

  count-step : (what : Counter) (by : ℕ) (new : PersonRow) → count_up what by row ≡ new →
      Replays (effect.Counted row.number what by ∷ []) (persons_in db (front ++ row ∷ []))
      (persons_in db (front ++ new ∷ []))
  unfolding fits after_effect person_of
  count-step what by new same = replays-one _ _ _ there (changed (count_up what by) new same)

-- a count that begins at 0
counted-all : (by : ℕ) → by ≤ last_count → raise_by by 0 ≡ by
counted-all by less = omega (arith, less)

module _ (db : Db) (front : List PersonRow) (number : ℕ) (below : AllBelow number_of_person number front) where
  abbrev ending : PersonRow → Db
  ending row = persons_in db (front ++ row ∷ [])

  -- a counter of the last person, which is as it was made, is raised
  counter-step : (what : Counter) (by : ℕ) (row : ℕ → PersonRow) → (row 0).number ≡ number →
      count_up what by (row 0) ≡ row (raise_by by 0) → by ≤ last_count →
      Replays (count_effect number what by) (ending (row 0)) (ending (row by))
  counter-step what by row numbered counts bounded =
      replays-unless by (effect.Counted number what by) (λ n. ending (row n))
      (subst (λ n. Replays (effect.Counted n what by ∷ []) (ending (row 0)) (ending (row by))) numbered
      (count-step db front (row 0) (subst (λ n. AllBelow number_of_person n front) (sym numbered) below) what by
      (row by) (counts ∙ ap row (counted-all by bounded))))

  -- all counters of a person of which none was raised
  all-counted : (row : PersonRow) → row.number ≡ number → IsListedPerson row → Replays (count_effects row)
      (ending (record row {
        time_present = 0;
        created_lines = 0;
        created_bytes = 0;
        read_texts = 0;
        text_fetches = 0;
        created_persons = 0;
        created_conferences = 0;
      })) (ending row)
  all-counted row numbered listed =
      let one : ℕ → PersonRow = λ n. record row {
        time_present = n;
        created_lines = 0;
        created_bytes = 0;
        read_texts = 0;
        text_fetches = 0;
        created_persons = 0;
        created_conferences = 0;
      } in
      let two : ℕ → PersonRow = λ n. record row {
        created_lines = n;
        created_bytes = 0;
        read_texts = 0;
        text_fetches = 0;
        created_persons = 0;
        created_conferences = 0;
      } in
      let three : ℕ → PersonRow = λ n. record row {
        created_bytes = n;
        read_texts = 0;
        text_fetches = 0;
        created_persons = 0;
        created_conferences = 0;
      } in
      let four : ℕ → PersonRow = λ n. record row {
        read_texts = n;
        text_fetches = 0;
        created_persons = 0;
        created_conferences = 0;
      } in
      let five : ℕ → PersonRow =
      λ n. record row { text_fetches = n; created_persons = 0; created_conferences = 0 } in
      let six : ℕ → PersonRow = λ n. record row { created_persons = n; created_conferences = 0 } in
      let seven : ℕ → PersonRow = λ n. record row { created_conferences = n } in
      subst (λ (n : ℕ). Replays (count_effects (record row { number = n })) (ending (one 0)) (ending row))
      (sym numbered)
      (replays-append _ _ _ _ _ (replays-append _ _ _ _ _ (replays-append _ _ _ _ _ (replays-append _ _ _ _ _
      (replays-append _ _ _ _ _ (replays-append _ _ _ _ _
      (counter-step counter.TimePresent row.time_present one numbered refl listed.time_present)
      (counter-step counter.CreatedLines row.created_lines two numbered refl listed.created_lines))
      (counter-step counter.CreatedBytes row.created_bytes three numbered refl listed.created_bytes))
      (counter-step counter.ReadTexts row.read_texts four numbered refl listed.read_texts))
      (counter-step counter.TextFetches row.text_fetches five numbered refl listed.text_fetches))
      (counter-step counter.CreatedPersons row.created_persons six numbered refl listed.created_persons))
      (counter-step counter.CreatedConferences row.created_conferences seven numbered refl listed.created_conferences))

-- a bare person is bounded as its row is
bare-listed : (row : PersonRow) → IsListedPerson row → IsListedPerson (bare_person row)
bare-listed row listed = record {
  next_created = (omega arith, omega arith);
  user = listed.user;
  no_user = λ none. listed.no_user (never row.sessions none);
  sessions = few row.sessions;
  time_present = listed.time_present;
  created_lines = listed.created_lines;
  created_bytes = listed.created_bytes;
  read_texts = listed.read_texts;
  text_fetches = listed.text_fetches;
  created_persons = listed.created_persons;
  created_conferences = listed.created_conferences;
} where
  never : (count : ℕ) → begun count ≡ 0 → count ≡ 0
  never count none = elim (cases_Bool (count == 0)) [
    | inl zero ↦ eqb-true count 0 zero
    | inr some ↦ let one : 1 ≡ 0 = rw some at none in absurd (omega (arith, one))
  ]

  few : (count : ℕ) → begun count ≤ last_count
  few count = elim (cases_Bool (count == 0)) [
    | inl zero ↦ rw zero (omega arith)
    | inr some ↦ rw some (omega arith)
  ]

module _ (all : List PersonRow) (rising : IsByNumber number_of_person all)
    (listed : AllByRecursion IsListedPerson all) where
  module _ (db : Db) (housed : AllByRecursion (λ row. has_letterbox db row.number ≡ true) all) where
    abbrev state : List PersonRow → Db
    state front = persons_in db (map bare_person front)

    module _ (front : List PersonRow) (row : PersonRow) (rest : List PersonRow) (same : front ++ row ∷ rest ≡ all) where
      abbrev before : List PersonRow
      before = map bare_person front

      below : AllBelow number_of_person row.number before
      below = below-mapped number_of_person bare_person (λ one. refl) row.number front
          (below-one number_of_person front row rest (subst (IsByNumber number_of_person) (sym same) rising))

      at : (P : PersonRow → Type 0) → AllByRecursion P all → P row
      at P holds = all-at P front row rest (subst (AllByRecursion P) (sym same) holds)

      abbrev fresh : PersonRow
      fresh = fresh_person row.number row.privileges row.flags row.last_login

      added : Replays (effect.PersonAdded row.number row.privileges row.flags row.last_login ∷ []) (state front)
          (persons_in db (before ++ fresh ∷ []))
      unfolding fits after_effect person_of conference_of
      added = replays-one _ _ _
          (and_from _ _ (at (λ row. has_letterbox db row.number ≡ true) housed)
          (ap is_none (row-absent number_of_person row.number before below)))
          (ap (persons_in db) (row-last number_of_person fresh before below))

      -- with its password and no login yet
      abbrev told : PersonRow
      told = record fresh { user_area = row.user_area; hash = row.hash }

      login : Replays (unless_zero row.sessions (effect.LoggedIn row.number row.last_login row.user))
          (persons_in db (before ++ told ∷ []))
          (persons_in db (before ++ (record told { user = row.user; sessions = begun row.sessions }) ∷ []))
      login = elim (cases_Bool (row.sessions == 0)) [
        | inl zero ↦ rw zero (replays-same _ _
            (ap (λ (user : List ℕ). persons_in db (before ++ (record told { user = user }) ∷ []))
            (sym ((at IsListedPerson listed).no_user (eqb-true row.sessions 0 zero)))))
        | inr some ↦ rw some
            (login-step db before told below row.user (at IsListedPerson listed).user refl)
      ]

      one : Replays (person_effects row) (state front) (state (front ++ row ∷ []))
      one = subst (λ (rows : List PersonRow). Replays (person_effects row) (state front) (persons_in db rows))
          (sym (map-append bare_person front (row ∷ [])))
          (replays-append _ _ _ _ _
          (replays-append _ _ _ _ _
          (replays-append (effect.PersonAdded row.number row.privileges row.flags row.last_login ∷ []) _ _ _ _ added
          (replays-unless row.user_area (effect.PersonField row.number (person_field.UserArea row.user_area))
          (λ n. persons_in db (before ++ (record fresh { user_area = n }) ∷ []))
          (area-step db before fresh below row.user_area)))
          (replays-append (effect.Password row.number row.hash ∷ []) _ _ _ _
          (hash-step db before (record fresh { user_area = row.user_area }) below row.hash) login))
          (all-counted db before row.number below (bare_person row) refl
          (bare-listed row (at IsListedPerson listed))))

    pub persons-again : (front rest : List PersonRow) → front ++ rest ≡ all →
        Replays (flat_map person_effects rest) (state front) (state all)
    persons-again front [] same =
        subst (λ rows. Replays [] (state front) (state rows)) (sym (append-nil front) ∙ same)
        (replays-none (state front))
    persons-again front (row ∷ rest) same =
        replays-append (person_effects row) (flat_map person_effects rest) _ _ _ (one front row rest same)
        (persons-again (front ++ row ∷ []) rest (append_assoc front (row ∷ []) rest ∙ same))
