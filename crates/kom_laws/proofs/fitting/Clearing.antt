-- What the call that deletes a conference comes to fits.
use Rattle.std.proofs.Common.{◌≡◌, ℕ, ◌+◌, ◌-◌, ◌≤◌, Bool, true, false, cond, not, ◌==◌, ◌||◌, List, [], ◌∷◌}
use Rattle.std.proofs.Common.{◌++◌}
use Rattle.std.proofs.Common.{length, Option, Some, None, refl, sym, ap, ◌∙◌, arith, eqb-true, eq-eqb}
use Rattle.std.proofs.Common.{append_assoc}
use Rattle.std.proofs.Common.{subst, inl, inr, nat_lt, true≢false}
use Rattle.std.specs.Prelude.{map, option_map, is_some, is_none}
use Rattle.std.specs.List.{AllByRecursion, filter, find, fold, flat_map, list_any}
use Rattle.std.proofs.lemmas.Bool.{cases_Bool, and_parts, and_from, or_parts, or_left, or_right, or_cases}
use Rattle.row_table.specs.Tables.{row_of, without_row}
use Rattle.row_table.proofs.Rows.{row_of-without_row}
use Rattle.kom_types.specs.declared.aux_items.AuxRow.{AuxRow}
use Rattle.kom_types.specs.declared.aux_items.ItemRow.{ItemRow}
use Rattle.kom_types.specs.declared.effects.Counter.{Counter}
use Rattle.kom_types.specs.declared.effects.Counter.TheVariants as counter
use Rattle.kom_types.specs.declared.effects.Effect.{Effect}
use Rattle.kom_types.specs.declared.effects.Effect.TheVariants as effect
use Rattle.kom_types.specs.declared.memberships.MembershipRow.{MembershipRow}
use Rattle.kom_types.specs.declared.persons.PersonRow.{PersonRow}
use Rattle.kom_types.specs.declared.seats.Seat.{Seat}
use Rattle.kom_types.specs.declared.texts.LocalText.{LocalText}
use Rattle.kom_types.specs.declared.texts.MarkRow.{MarkRow}
use Rattle.kom_types.specs.declared.texts.Recipient.{Recipient}
use Rattle.kom_types.specs.tables.AuxItems.{is_item_of}
use Rattle.kom_types.specs.tables.Conferences.{number_of_conference}
use Rattle.kom_types.specs.tables.Memberships.{is_membership, closed_up, without_membership}
use Rattle.kom_types.specs.tables.Memberships as Memberships
use Rattle.kom_types.specs.tables.Persons.{number_of_person, count_up}
use Rattle.kom_types.specs.tables.Texts as Texts
use Rattle.kom_types.specs.tables.Texts.{is_recipient, is_mark, by_text}
use Rattle.kom_model.specs.Db.{Db, conference_of, person_of, membership_of, memberships_of, members_of, memberships_at}
use Rattle.kom_model.specs.Db.{recipient_of, locals_of, mark_of, marks_of, items_of}
use Rattle.kom_model.specs.Effects.{fits, after_effect, apply, all_fit}
use Rattle.kom_model.specs.Whole.{IsWhole, key_of}
use Rattle.kom_model.specs.State.{AreSeated}
use Rattle.kom_model.specs.calls.Call.{Asked}
use Rattle.kom_model.specs.calls.Conferences.{delete_conf, gone_conference, gone_person, owner_guards}
use Rattle.kom_model.specs.calls.Guards.{caller}
use Rattle.kom_model.specs.calls.Sessions.{seat_left, all_left}
use Rattle.kom_model.proofs.Fields.{counted-number}
use Rattle.kom_model.proofs.whole.Found.{find-mapped}
use Rattle.kom_laws.proofs.fitting.Deleting.{same_item, item-own, item-key, item-named, map-through}
use Rattle.kom_laws.proofs.fitting.Guards.{all-pass, conference-there, one-fits}
use Rattle.kom_laws.proofs.fitting.Removing.{taken, present, present-of, found-among, named-among, gone-all}
use Rattle.kom_laws.proofs.fitting.Removing.{none-left, removed-hold, all-passing}
use Rattle.kom_model.proofs.whole.Counts.{all-weaker, count-none, count-kept}
use Rattle.kom_model.proofs.whole.Marks.{count-marks}
use Rattle.kom_model.proofs.whole.Memberships.{count-memberships, keys-closed}
use Rattle.kom_model.proofs.whole.OnConferences.{told-length}
use Rattle.kom_model.proofs.whole.Pairs.{is_pair, all-unkeyed, filter-keyed, count-keyed}

equal : (n : ℕ) → (n == n) ≡ true
equal n = eq-eqb n n refl

-- ---- marks in the order of their texts are the same marks
all-placed : (P : MarkRow → Type 0) (row : MarkRow) (rows : List MarkRow) → P row → AllByRecursion P rows →
    AllByRecursion P (by_text row rows)
all-placed P row [] here all = (here, tt)
all-placed P row (first ∷ rows) here all = elim (cases_Bool (nat_lt row.text first.text)) [
  | inl before ↦ rw before (here, all)
  | inr after ↦ rw after (all.0, all-placed P row rows here all.1)
]

all-sorted : (P : MarkRow → Type 0) (rows sorted : List MarkRow) → AllByRecursion P rows → AllByRecursion P sorted →
    AllByRecursion P (fold (λ sorted row. by_text row sorted) sorted rows)
all-sorted P [] sorted all done = done
all-sorted P (row ∷ rows) sorted all done =
    all-sorted P rows (by_text row sorted) all.1 (all-placed P row sorted all.0 done)

count-first : {X : Type 0} (test : X → Bool) (row : X) (rows : List X) →
    length (filter test (row ∷ rows)) ≡ length (filter test rows) + cond (test row) 1 0
count-first test row rows = elim (cases_Bool (test row)) [
  | inl passes ↦ rw passes (omega arith)
  | inr fails ↦ rw fails (omega arith)
]

count-placed : (test : MarkRow → Bool) (row : MarkRow) (rows : List MarkRow) →
    length (filter test (by_text row rows)) ≡ length (filter test rows) + cond (test row) 1 0
count-placed test row [] = count-first test row []
count-placed test row (first ∷ rows) =
    let rest = count-placed test row rows in
    let one = count-first test first rows in
    elim (cases_Bool (nat_lt row.text first.text)) [
      | inl before ↦ rw before (count-first test row (first ∷ rows))
      | inr after ↦
          let other = count-first test first (by_text row rows) in
          rw after (omega (arith, rest, one, other))
    ]

count-sorted : (test : MarkRow → Bool) (rows sorted : List MarkRow) →
    length (filter test (fold (λ sorted row. by_text row sorted) sorted rows))
    ≡ length (filter test rows) + length (filter test sorted)
count-sorted test [] sorted = omega arith
count-sorted test (row ∷ rows) sorted =
    let rest = count-sorted test rows (by_text row sorted) in
    let one = count-placed test row sorted in
    let other = count-first test row rows in
    omega (arith, rest, one, other)

any-placed : (test : MarkRow → Bool) (row : MarkRow) (rows : List MarkRow) →
    (test row || list_any test rows) ≡ true → list_any test (by_text row rows) ≡ true
any-placed test row [] is = is
any-placed test row (first ∷ rows) is = elim (cases_Bool (nat_lt row.text first.text)) [
  | inl before ↦ rw before is
  | inr after ↦ rw after (elim (or_cases (test row) (list_any test (first ∷ rows)) is) [
    | inl here ↦ or_right _ _ (any-placed test row rows (or_left _ _ here))
    | inr there ↦ elim (or_cases (test first) (list_any test rows) there) [
      | inl one ↦ or_left _ _ one
      | inr others ↦ or_right _ _ (any-placed test row rows (or_right _ _ others))
    ]
  ])
]

any-sorted : (test : MarkRow → Bool) (rows sorted : List MarkRow) →
    (list_any test rows || list_any test sorted) ≡ true →
    list_any test (fold (λ sorted row. by_text row sorted) sorted rows) ≡ true
any-sorted test [] sorted is = is
any-sorted test (row ∷ rows) sorted is = any-sorted test rows (by_text row sorted)
    (elim (or_cases (list_any test (row ∷ rows)) (list_any test sorted) is) [
      | inl here ↦ elim (or_cases (test row) (list_any test rows) here) [
        | inl one ↦ or_right _ _ (any-placed test row sorted (or_left _ _ one))
        | inr others ↦ or_left _ _ others
      ]
      | inr there ↦ or_right _ _ (any-placed test row sorted (or_right _ _ there))
    ])

-- ---- memberships by their pairs
find-keyed : (person conference : ℕ) (rows : List MembershipRow) →
    is_some (find (is_membership person conference) rows) ≡ is_some (find (is_pair person conference) (map key_of rows))
find-keyed person conference [] = refl
find-keyed person conference (row ∷ rows) = elim (cases_Bool (is_membership person conference row)) [
  | inl here ↦ rw here refl
  | inr there ↦ rw there (find-keyed person conference rows)
]

keys-gone : (person conference : ℕ) (rows : List MembershipRow) →
    is_some (find (is_membership person conference) rows) ≡ true →
    map key_of (without_membership person conference rows)
    ≡ filter (λ key. not (is_pair person conference key)) (map key_of rows)
keys-gone person conference rows there = by (find (is_membership person conference) rows) there where
  by : (found : Option MembershipRow) → is_some found ≡ true →
      map key_of (elim found [
        | None ↦ rows
        | Some row ↦ closed_up person row.position
            (filter (λ row. not (is_membership person conference row)) rows)
      ])
      ≡ filter (λ key. not (is_pair person conference key)) (map key_of rows)
  by None is = absurd (true≢false (sym is))
  by (Some row) is = keys-closed person row.position _
      ∙ sym (filter-keyed key_of (λ key. not (is_pair person conference key)) rows)

-- ---- what is known of the rows on the way
pub record Left (number : ℕ) (base : Db) (sent : List Recipient) (owned : List MarkRow) (joined : List (ℕ × ℕ))
    (held : List ItemRow) (db : Db) : Type 0 where
  pub conference : is_some (row_of number_of_conference number db.conferences) ≡ true
  pub person : is_some (row_of number_of_person number db.persons) ≡ is_some
      (row_of number_of_person number base.persons)
  pub recipients : db.recipients ≡ sent
  pub marks : db.marks ≡ owned
  pub keys : map key_of db.memberships ≡ joined
  pub items : db.items ≡ held

some-told : {X Y : Type 0} (tell : X → Y) (found : Option X) → is_some (option_map tell found) ≡ is_some found
some-told tell None = refl
some-told tell (Some row) = refl

module _ (number : ℕ) (base : Db) where
  -- somebody is logged out
  module _ (recipients : List Recipient) (marks : List MarkRow) (keys : List (ℕ × ℕ)) (items : List ItemRow) where
    counted-left : (person : ℕ) (what : Counter) (by : ℕ) (db : Db) →
        Left number base recipients marks keys items db →
        Left number base recipients marks keys items (after_effect (effect.Counted person what by) db)
    unfolding after_effect
    counted-left person what by db left = record {
      conference = left.conference;
      person = ap is_some (find-mapped (λ (row : PersonRow). row.number == number)
          (λ row. cond (row.number == person) (count_up what by row) row)
          (λ row. ap (λ n. n == number) (same row)) db.persons)
          ∙ some-told (λ row. cond (row.number == person) (count_up what by row) row)
          (row_of number_of_person number db.persons) ∙ left.person;
      recipients = left.recipients;
      marks = left.marks;
      keys = left.keys;
      items = left.items;
    } where
      same : (row : PersonRow) → (cond (row.number == person) (count_up what by row) row).number ≡ row.number
      same row = elim (cases_Bool (row.number == person)) [
        | inl here ↦ rw here (counted-number what by row)
        | inr there ↦ rw there refl
      ]

    counted-fits : (by : ℕ) (db : Db) → Left number base recipients marks keys items db →
        is_some (row_of number_of_person number base.persons) ≡ true →
        fits (effect.Counted number counter.TimePresent by) db ≡ true
    unfolding fits person_of
    counted-fits by db left there = left.person ∙ there

    left-all : (asked : Asked) (rest : List Effect) →
        ((db : Db) → Left number base recipients marks keys items db → all_fit rest db ≡ true) → (seats : List Seat) →
        AreSeated base seats → (db : Db) → Left number base recipients marks keys items db →
        all_fit (flat_map (seat_left asked) (filter (λ seat. seat.person == number) seats) ++ rest) db ≡ true
    unfolding person_of
    left-all asked rest after [] seated db left = after db left
    left-all asked rest after (seat ∷ seats) seated db left = elim (cases_Bool (seat.person == number)) [
      | inr other ↦ rw other (left-all asked rest after seats seated.1 db left)
      | inl same ↦ rw same (elim (cases_Bool (seat.person == 0)) [
        | inl zero ↦ rw zero (left-all asked rest after seats seated.1 db left)
        | inr some ↦ rw some (elim (cases_Bool (asked.moment - seat.login == 0)) [
          | inl none ↦ rw none (left-all asked rest after seats seated.1 db left)
          | inr long ↦
              let at : seat.person ≡ number = eqb-true seat.person number same in
              let there : is_some (row_of number_of_person seat.person base.persons) ≡ true =
              rw some at seated.0.person in
              let here : is_some (row_of number_of_person number base.persons) ≡ true = rw at at there in
              let by : ℕ = asked.moment - seat.login in
              let fit = counted-fits by db left here in
              let made_left : apply (effect.Counted number counter.TimePresent by) db
              ≡ after_effect (effect.Counted number counter.TimePresent by) db = rw fit refl in
              rw (long, at) (and_from _ _ fit (subst (λ db.
              all_fit (flat_map (seat_left asked) (filter (λ seat. seat.person == number) seats) ++ rest) db ≡ true)
              (sym made_left) (left-all asked rest after seats seated.1 _
              (counted-left number counter.TimePresent by db left))))
        ])
      ])
    ]

-- ---- which rows go
abbrev same_recipient : ℕ → Recipient → Recipient → Bool
same_recipient number one row = is_recipient one.text number row

recipient-own : (number : ℕ) (x : Recipient) → (x.conference == number) ≡ true → same_recipient number x x ≡ true
recipient-own number x is = and_from _ _ (equal x.text) is

recipient-key : (number : ℕ) (x y row : Recipient) → (y.conference == number) ≡ true →
    same_recipient number y row ≡ true → same_recipient number x row ≡ same_recipient number x y
recipient-key number x y row here is =
    let parts = and_parts (row.text == y.text) (row.conference == number) is in
    rw (eqb-true row.text y.text parts.0, parts.1, here) refl

abbrev same_mark : ℕ → MarkRow → MarkRow → Bool
same_mark number one row = is_mark number one.text row

mark-own : (number : ℕ) (x : MarkRow) → (x.person == number) ≡ true → same_mark number x x ≡ true
mark-own number x is = and_from _ _ is (equal x.text)

mark-key : (number : ℕ) (x y row : MarkRow) → (y.person == number) ≡ true → same_mark number y row ≡ true →
    same_mark number x row ≡ same_mark number x y
mark-key number x y row here is =
    let parts = and_parts (row.person == number) (row.text == y.text) is in
    rw (eqb-true row.text y.text parts.1, parts.0, here) refl

abbrev same_pair : ℕ × ℕ → ℕ × ℕ → Bool
same_pair one key = is_pair one.0 one.1 key

pair-own : (key : ℕ × ℕ) → same_pair key key ≡ true
pair-own key = and_from _ _ (equal key.0) (equal key.1)

pair-key : (x y key : ℕ × ℕ) → same_pair y key ≡ true → same_pair x key ≡ same_pair x y
pair-key x y key is =
    let parts = and_parts (key.0 == y.0) (key.1 == y.1) is in
    rw (eqb-true key.0 y.0 parts.0, eqb-true key.1 y.1 parts.1) refl

module _ (asked : Asked) (number : ℕ) (whole : IsWhole asked.db) where
  abbrev base : Db
  base = asked.db

  abbrev is_sent : Recipient → Bool
  is_sent row = row.conference == number

  abbrev recipients_left : List Recipient
  recipients_left = taken (same_recipient number) is_sent (recipient-own number) (recipient-key number)
      (filter is_sent base.recipients) base.recipients

  abbrev is_own : MarkRow → Bool
  is_own row = row.person == number

  abbrev marks_gone : List MarkRow
  marks_gone = Texts.marks_of number base.marks

  abbrev marks_left : List MarkRow
  marks_left = taken (same_mark number) is_own (mark-own number) (mark-key number) marks_gone base.marks

  abbrev keys_first : List (ℕ × ℕ)
  keys_first = map key_of base.memberships

  abbrev touches : ℕ × ℕ → Bool
  touches key = key.0 == number || key.1 == number

  abbrev keys_left : List (ℕ × ℕ)
  keys_left = taken same_pair touches (λ x is. pair-own x) (λ x y key here is. pair-key x y key is)
      (filter touches keys_first) keys_first

  abbrev items_left : List ItemRow
  items_left = taken (same_item false number) (is_item_of false number) (item-own false number)
      (item-key false number) (filter (is_item_of false number) base.items) base.items

  -- ---- nothing hangs on the conference then
  no-recipient : AllByRecursion (λ row. is_sent row ≡ false) recipients_left
  no-recipient = none-left (same_recipient number) is_sent (recipient-own number) (recipient-key number) base.recipients

  no-mark : AllByRecursion (λ row. is_own row ≡ false) marks_left
  no-mark = gone-all (same_mark number) is_own (mark-own number) (mark-key number) marks_gone base.marks
      (all-weaker (λ row. is_own row ≡ true → list_any (λ x. same_mark number x row) (filter is_own base.marks) ≡ true)
      (λ row. is_own row ≡ true → list_any (λ x. same_mark number x row) marks_gone ≡ true)
      (λ row named is. any-sorted (λ x. same_mark number x row) (filter is_own base.marks) []
      (or_left _ _ (named is))) base.marks
      (named-among (same_mark number) is_own (mark-own number) (mark-key number) base.marks))

  no-key : AllByRecursion (λ key. touches key ≡ false) keys_left
  no-key = none-left same_pair touches (λ x is. pair-own x) (λ x y key here is. pair-key x y key is) keys_first

  no-item : AllByRecursion (λ row. is_item_of false number row ≡ false) items_left
  no-item = none-left (same_item false number) (is_item_of false number) (item-own false number)
      (item-key false number) base.items

  -- rows of memberships by what is known of their pairs
  no-member : (rows : List MembershipRow) → map key_of rows ≡ keys_left →
      AllByRecursion (λ row. touches (key_of row) ≡ false) rows
  no-member rows keys = all-unkeyed key_of (λ key. touches key ≡ false) rows
      (subst (λ (keys : List (ℕ × ℕ)). AllByRecursion (λ key. touches key ≡ false) keys) (sym keys) no-key)

  conf-fits : (db : Db) → is_some (row_of number_of_conference number db.conferences) ≡ true →
      db.recipients ≡ recipients_left → map key_of db.memberships ≡ keys_left → db.items ≡ items_left →
      is_none (row_of number_of_person number db.persons) ≡ true → fits (effect.ConfGone number) db ≡ true
  unfolding fits conference_of locals_of members_of items_of person_of
  conf-fits db there recipients keys items nobody =
      let sent : AllByRecursion (λ row. is_sent row ≡ false) db.recipients =
      subst (λ (rows : List Recipient). AllByRecursion (λ row. is_sent row ≡ false) rows)
      (sym recipients) no-recipient in
      let held : AllByRecursion (λ row. is_item_of false number row ≡ false) db.items =
      subst (λ (rows : List ItemRow). AllByRecursion (λ row. is_item_of false number row ≡ false) rows)
      (sym items) no-item in
      let locals : (length (map (λ (row : Recipient). record { local = row.local; text = row.text })
      (filter is_sent db.recipients)) == 0) ≡ true =
      eq-eqb _ 0 (told-length (λ (row : Recipient). record { local = row.local; text = row.text })
      (filter is_sent db.recipients) ∙ count-none is_sent db.recipients sent) in
      let members : (length (filter (λ (row : MembershipRow). row.conference == number) db.memberships) == 0) ≡ true =
      eq-eqb _ 0 (count-none (λ (row : MembershipRow). row.conference == number) db.memberships
      (all-weaker (λ row. touches (key_of row) ≡ false) (λ row. (row.conference == number) ≡ false)
      (λ row no. (or_parts (row.person == number) (row.conference == number) no).1) db.memberships
      (no-member db.memberships keys))) in
      let told : (length (map (λ (row : ItemRow). row.item) (filter (is_item_of false number) db.items)) == 0) ≡ true =
      eq-eqb _ 0 (told-length (λ (row : ItemRow). row.item) (filter (is_item_of false number) db.items)
      ∙ count-none (is_item_of false number) db.items held) in
      and_from _ _ there (and_from _ _ (and_from _ _ (and_from _ _ locals members) told) nobody)

  abbrev LeftAll : Db → Type 0
  LeftAll db = Left number base recipients_left marks_left keys_left items_left db

  person-fits : (db : Db) → LeftAll db → is_some (row_of number_of_person number base.persons) ≡ true →
      fits (effect.PersonGone number) db ≡ true
  unfolding fits person_of memberships_of marks_of
  person-fits db left there =
      let own : AllByRecursion (λ row. is_own row ≡ false) db.marks =
      subst (λ (rows : List MarkRow). AllByRecursion (λ row. is_own row ≡ false) rows) (sym left.marks) no-mark in
      let joined : (length (Memberships.memberships_of number db.memberships) == 0) ≡ true =
      eq-eqb _ 0 (count-memberships number db.memberships
      ∙ count-none (λ (row : MembershipRow). row.person == number) db.memberships
      (all-weaker (λ row. touches (key_of row) ≡ false) (λ row. (row.person == number) ≡ false)
      (λ row no. (or_parts (row.person == number) (row.conference == number) no).0) db.memberships
      (no-member db.memberships left.keys))) in
      let marked : (length (Texts.marks_of number db.marks) == 0) ≡ true =
      eq-eqb _ 0 (count-marks number db.marks ∙ count-none is_own db.marks own) in
      and_from _ _ (left.person ∙ there) (and_from _ _ joined marked)

  -- the person goes, if there is one, and then the conference
  none-some : {X : Type 0} (found : Option X) → is_some found ≡ false → is_none found ≡ true
  none-some None is = refl
  none-some (Some row) is = sym is

  person-left : (db : Db) → LeftAll db → is_none (row_of number_of_person number
      (without_row number_of_person number db.persons)) ≡ true
  person-left db left = ap is_none (row_of-without_row number_of_person number number db.persons)
      ∙ rw (equal number) refl

  after-person : (db : Db) → LeftAll db →
      fits (effect.ConfGone number) (after_effect (effect.PersonGone number) db) ≡ true
  unfolding after_effect
  after-person db left =
      conf-fits (after_effect (effect.PersonGone number) db) left.conference left.recipients left.keys
      left.items (person-left db left)

  last-fit : (db : Db) → LeftAll db → all_fit (gone_person base number ++ effect.ConfGone number ∷ []) db ≡ true
  unfolding person_of
  last-fit db left = by (row_of number_of_person number base.persons) refl where
    by : (found : Option PersonRow) → row_of number_of_person number base.persons ≡ found →
        all_fit ((elim found [
          | None ↦ []
          | Some row ↦ effect.PersonGone number ∷ []
        ]) ++ effect.ConfGone number ∷ []) db
        ≡ true
    by None found = one-fits (effect.ConfGone number) db (conf-fits db left.conference left.recipients left.keys
        left.items (none-some _ (left.person ∙ ap is_some found)))
    by (Some row) found =
        let fit = person-fits db left (ap is_some found) in
        let then = after-person db left in
        rw fit (rw then refl)

  -- ---- what hangs on the conference goes, table by table, the last one first
  abbrev last : List Effect
  last = gone_person base number ++ effect.ConfGone number ∷ []

  item-there : (x : ItemRow) (rows : List ItemRow) (db : Db) →
      Left number base recipients_left marks_left keys_left rows db →
      fits (effect.AuxGone false number x.item.number) db ≡ is_some (find (same_item false number x) rows)
  unfolding fits items_of
  item-there x rows db left = item-named false number x.item.number db.items
      ∙ ap (λ (rows : List ItemRow). is_some (find (same_item false number x) rows)) left.items

  item-gone : (x : ItemRow) (rows : List ItemRow) (db : Db) →
      Left number base recipients_left marks_left keys_left rows db →
      is_some (find (same_item false number x) rows) ≡ true →
      Left number base recipients_left marks_left keys_left (filter (λ row. not (same_item false number x row)) rows)
      (after_effect (effect.AuxGone false number x.item.number) db)
  unfolding after_effect
  item-gone x rows db left there = record {
    conference = left.conference;
    person = left.person;
    recipients = left.recipients;
    marks = left.marks;
    keys = left.keys;
    items = ap (λ (rows : List ItemRow). filter (λ row. not (same_item false number x row)) rows) left.items;
  }

  abbrev gone_items : List Effect
  gone_items = map (λ row. effect.AuxGone false number row.item.number) (filter (is_item_of false number) base.items)

  items-fit : (db : Db) → Left number base recipients_left marks_left keys_left base.items db →
      all_fit (gone_items ++ last) db ≡ true
  items-fit db left = removed-hold (same_item false number) (is_item_of false number) (item-own false number)
      (item-key false number) (λ row. effect.AuxGone false number row.item.number)
      (Left number base recipients_left marks_left keys_left) item-there item-gone last
      (filter (is_item_of false number) base.items) base.items db left
      (present (same_item false number) (is_item_of false number) (item-own false number) (item-key false number)
      base.items (λ x. whole.items.once false number x.item.number)) last-fit

  key-there : (x : ℕ × ℕ) (keys : List (ℕ × ℕ)) (db : Db) →
      Left number base recipients_left marks_left keys base.items db →
      fits (effect.MemberGone x.0 x.1) db ≡ is_some (find (same_pair x) keys)
  unfolding fits membership_of
  key-there x keys db left = find-keyed x.0 x.1 db.memberships
      ∙ ap (λ (keys : List (ℕ × ℕ)). is_some (find (same_pair x) keys)) left.keys

  key-gone : (x : ℕ × ℕ) (keys : List (ℕ × ℕ)) (db : Db) →
      Left number base recipients_left marks_left keys base.items db → is_some (find (same_pair x) keys) ≡ true →
      Left number base recipients_left marks_left (filter (λ key. not (same_pair x key)) keys) base.items
      (after_effect (effect.MemberGone x.0 x.1) db)
  unfolding after_effect
  key-gone x keys db left there = record {
    conference = left.conference;
    person = left.person;
    recipients = left.recipients;
    marks = left.marks;
    keys = keys-gone x.0 x.1 db.memberships (find-keyed x.0 x.1 db.memberships
        ∙ ap (λ (keys : List (ℕ × ℕ)). is_some (find (same_pair x) keys)) left.keys ∙ there)
        ∙ ap (λ (keys : List (ℕ × ℕ)). filter (λ key. not (same_pair x key)) keys) left.keys;
    items = left.items;
  }

  abbrev gone_keys : List Effect
  gone_keys = map (λ key. effect.MemberGone key.0 key.1) (filter touches keys_first)

  keys-once : (x : ℕ × ℕ) → length (filter (same_pair x) keys_first) ≤ 1
  keys-once x =
      let once = whole.memberships.once x.0 x.1 in let same = count-keyed key_of (is_pair x.0 x.1) base.memberships in
      omega (arith, once, same)

  keys-fit : (db : Db) → Left number base recipients_left marks_left keys_first base.items db →
      all_fit (gone_keys ++ (gone_items ++ last)) db ≡ true
  keys-fit db left = removed-hold same_pair touches (λ x is. pair-own x) (λ x y key here is. pair-key x y key is)
      (λ key. effect.MemberGone key.0 key.1)
      (λ keys. Left number base recipients_left marks_left keys base.items) key-there key-gone (gone_items ++ last)
      (filter touches keys_first) keys_first db left
      (present same_pair touches (λ x is. pair-own x) (λ x y key here is. pair-key x y key is) keys_first keys-once)
      items-fit

  mark-there : (x : MarkRow) (rows : List MarkRow) (db : Db) →
      Left number base recipients_left rows keys_first base.items db →
      fits (effect.MarkGone number x.text) db ≡ is_some (find (same_mark number x) rows)
  unfolding fits mark_of
  mark-there x rows db left = ap (λ (rows : List MarkRow). is_some (find (same_mark number x) rows)) left.marks

  mark-gone : (x : MarkRow) (rows : List MarkRow) (db : Db) →
      Left number base recipients_left rows keys_first base.items db →
      is_some (find (same_mark number x) rows) ≡ true →
      Left number base recipients_left (filter (λ row. not (same_mark number x row)) rows) keys_first base.items
      (after_effect (effect.MarkGone number x.text) db)
  unfolding after_effect
  mark-gone x rows db left there = record {
    conference = left.conference;
    person = left.person;
    recipients = left.recipients;
    marks = ap (λ (rows : List MarkRow). filter (λ row. not (same_mark number x row)) rows) left.marks;
    keys = left.keys;
    items = left.items;
  }

  abbrev gone_marks : List Effect
  gone_marks = map (λ row. effect.MarkGone number row.text) marks_gone

  marks-found : AllByRecursion (λ x. (is_some (find (same_mark number x) base.marks) ≡ true) ×
      (is_own x ≡ true)) marks_gone
  marks-found = all-sorted (λ x. (is_some (find (same_mark number x) base.marks) ≡ true) × (is_own x ≡ true))
      (filter is_own base.marks) []
      (all-weaker (λ x. (is_own x ≡ true → is_some (find (same_mark number x) base.marks) ≡ true) × (is_own x ≡ true))
      (λ x. (is_some (find (same_mark number x) base.marks) ≡ true) × (is_own x ≡ true))
      (λ x both. (both.0 both.1, both.1)) (filter is_own base.marks)
      (all-passing (λ x. is_own x ≡ true → is_some (find (same_mark number x) base.marks) ≡ true) is_own base.marks
      (found-among (same_mark number) is_own (mark-own number) (mark-key number) base.marks))) tt

  marks-once : (x : MarkRow) → length (filter (same_mark number x) marks_gone) ≤ 1
  marks-once x =
      let once = whole.marks.once number x.text in
      let less = count-kept (same_mark number x) is_own base.marks in
      let all = count-sorted (same_mark number x) (filter is_own base.marks) [] in
      omega (arith, once, less, all)

  marks-fit : (db : Db) → Left number base recipients_left base.marks keys_first base.items db →
      all_fit (gone_marks ++ (gone_keys ++ (gone_items ++ last))) db ≡ true
  marks-fit db left = removed-hold (same_mark number) is_own (mark-own number) (mark-key number)
      (λ row. effect.MarkGone number row.text)
      (λ rows. Left number base recipients_left rows keys_first base.items) mark-there mark-gone
      (gone_keys ++ (gone_items ++ last)) marks_gone base.marks db left
      (present-of (same_mark number) is_own (mark-own number) (mark-key number) marks_gone base.marks marks-found
      marks-once) keys-fit

  recipient-there : (x : Recipient) (rows : List Recipient) (db : Db) →
      Left number base rows base.marks keys_first base.items db →
      fits (effect.RecipientGone x.text number) db ≡ is_some (find (same_recipient number x) rows)
  unfolding fits recipient_of
  recipient-there x rows db left =
      ap (λ (rows : List Recipient). is_some (find (same_recipient number x) rows)) left.recipients

  recipient-gone : (x : Recipient) (rows : List Recipient) (db : Db) →
      Left number base rows base.marks keys_first base.items db →
      is_some (find (same_recipient number x) rows) ≡ true →
      Left number base (filter (λ row. not (same_recipient number x row)) rows) base.marks keys_first base.items
      (after_effect (effect.RecipientGone x.text number) db)
  unfolding after_effect
  recipient-gone x rows db left there = record {
    conference = left.conference;
    person = left.person;
    recipients = ap (λ (rows : List Recipient). filter (λ row. not (same_recipient number x row)) rows) left.recipients;
    marks = left.marks;
    keys = left.keys;
    items = left.items;
  }

  abbrev gone_recipients : List Effect
  gone_recipients = map (λ row. effect.RecipientGone row.text number) (filter is_sent base.recipients)

  recipients-fit : (db : Db) → Left number base base.recipients base.marks keys_first base.items db →
      all_fit (gone_recipients ++ (gone_marks ++ (gone_keys ++ (gone_items ++ last)))) db ≡ true
  recipients-fit db left = removed-hold (same_recipient number) is_sent (recipient-own number) (recipient-key number)
      (λ row. effect.RecipientGone row.text number)
      (λ rows. Left number base rows base.marks keys_first base.items) recipient-there recipient-gone
      (gone_marks ++ (gone_keys ++ (gone_items ++ last))) (filter is_sent base.recipients) base.recipients db left
      (present (same_recipient number) is_sent (recipient-own number) (recipient-key number) base.recipients
      (λ x. whole.recipients.once x.text number)) marks-fit

  first-left : is_some (row_of number_of_conference number base.conferences) ≡ true →
      Left number base base.recipients base.marks keys_first base.items base
  first-left there =
      record { conference = there; person = refl; recipients = refl; marks = refl; keys = refl; items = refl }

  all-left : AreSeated base asked.seats → is_some (row_of number_of_conference number base.conferences) ≡ true →
      all_fit (all_left asked number
      ++ (gone_recipients ++ (gone_marks ++ (gone_keys ++ (gone_items ++ last))))) base ≡ true
  unfolding person_of
  all-left seated there = left-all number base base.recipients base.marks keys_first base.items asked
      (gone_recipients ++ (gone_marks ++ (gone_keys ++ (gone_items ++ last)))) recipients-fit asked.seats seated base
      (first-left there)

  -- the effects as the call lists them
  recipients-listed : map (λ (pair : LocalText). effect.RecipientGone pair.text number) (locals_of base number)
      ≡ gone_recipients
  unfolding locals_of
  recipients-listed = map-through (λ (row : Recipient). record { local = row.local; text = row.text })
      (λ (pair : LocalText). effect.RecipientGone pair.text number) (filter is_sent base.recipients)

  marks-listed : map (λ (row : MarkRow). effect.MarkGone number row.text) (marks_of base number) ≡ gone_marks
  unfolding marks_of
  marks-listed = refl

  keys-listed : map (λ (row : MembershipRow). effect.MemberGone row.person row.conference) (memberships_at base number)
      ≡ gone_keys
  unfolding memberships_at
  keys-listed =
      sym (map-through key_of (λ (key : ℕ × ℕ). effect.MemberGone key.0 key.1)
      (filter (λ row. row.person == number || row.conference == number) base.memberships))
      ∙ ap (λ (keys : List (ℕ × ℕ)). map (λ (key : ℕ × ℕ). effect.MemberGone key.0 key.1) keys)
      (sym (filter-keyed key_of touches base.memberships))

  items-listed : map (λ (item : AuxRow). effect.AuxGone false number item.number) (items_of base false number)
      ≡ gone_items
  unfolding items_of
  items-listed = map-through (λ (row : ItemRow). row.item)
      (λ (item : AuxRow). effect.AuxGone false number item.number) (filter (is_item_of false number) base.items)

  in-order : (a b c d e f g : List Effect) →
      a ++ b ++ c ++ d ++ e ++ f ++ g ≡ a ++ (b ++ (c ++ (d ++ (e ++ (f ++ g)))))
  in-order a b c d e f g = append_assoc (a ++ b ++ c ++ d ++ e) f g ∙ append_assoc (a ++ b ++ c ++ d) e (f ++ g)
      ∙ append_assoc (a ++ b ++ c) d (e ++ (f ++ g)) ∙ append_assoc (a ++ b) c (d ++ (e ++ (f ++ g)))
      ∙ append_assoc a b (c ++ (d ++ (e ++ (f ++ g))))

  gone_conference-fits : AreSeated base asked.seats →
      is_some (row_of number_of_conference number base.conferences) ≡ true →
      all_fit (gone_conference asked number) base ≡ true
  gone_conference-fits seated there =
      let listed : gone_conference asked number ≡ all_left asked number ++ gone_recipients ++ gone_marks ++ gone_keys
      ++ gone_items ++ gone_person base number ++ effect.ConfGone number ∷ [] =
      λ i. all_left asked number ++ recipients-listed i ++ marks-listed i ++ keys-listed i
      ++ items-listed i ++ gone_person base number ++ effect.ConfGone number ∷ [] in
      subst (λ (effects : List Effect). all_fit effects base ≡ true)
      (sym (in-order (all_left asked number) gone_recipients gone_marks gone_keys gone_items (gone_person base number)
      (effect.ConfGone number ∷ []))
      ∙ sym listed) (all-left seated there)

  pub delete_conf-fits : AreSeated base asked.seats → (delete_conf asked number).early ≡ None →
      all_fit (delete_conf asked number).rest.effects base ≡ true
  unfolding conference_of
  delete_conf-fits seated passes =
      let pass = all-pass (owner_guards asked number) passes in
      gone_conference-fits seated (conference-there base (caller asked) number pass.1.0)
