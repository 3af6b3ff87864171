-- A counter that may be raised leaves whole rows whole.
use Rattle.std.proofs.Common.{◌≡◌, ℕ, ◌+◌, ◌<◌, ◌≤◌, true, false, ◌==◌, Option, Some, None, refl, sym, ◌∙◌}
use Rattle.std.proofs.Common.{subst, arith, true≢false}
use Rattle.std.specs.Prelude.{nat_le}
use Rattle.std.proofs.lemmas.Bool.{and_parts, leb-true}
use Rattle.row_table.specs.Tables.{row_of, changed_row}
use Rattle.kom_types.specs.declared.limits.TheConstants.{LAST_CONFERENCE, LAST_DRAWN}
use Rattle.kom_types.specs.declared.conferences.ConferenceRow.{ConferenceRow}
use Rattle.kom_types.specs.declared.persons.PersonRow.{PersonRow}
use Rattle.kom_types.specs.declared.raised.Raised.{Raised}
use Rattle.kom_types.specs.declared.raised.RaisedCounter.{RaisedCounter}
use Rattle.kom_types.specs.declared.raised.RaisedCounter.TheVariants as counter
use Rattle.kom_types.specs.declared.texts.TextRow.{TextRow}
use Rattle.kom_types.specs.tables.Conferences.{number_of_conference}
use Rattle.kom_types.specs.tables.Persons.{number_of_person}
use Rattle.kom_types.specs.tables.Texts.{number_of_text}
use Rattle.kom_model.specs.Db.{Db, conference_of, person_of, text_of}
use Rattle.kom_model.specs.Raising.{may_raise, raised_in, may_raise_to, raised_to, is_between}
use Rattle.kom_model.specs.Whole.{IsWhole, AreConferences, AreTexts}
use Rattle.kom_model.proofs.whole.Conferences.{conferences-same}
use Rattle.kom_model.proofs.whole.Counts.{all-weaker}
use Rattle.kom_model.proofs.whole.Stays.{conferences-changed, conferences-whole, persons-changed, persons-whole}
use Rattle.kom_model.proofs.whole.Stays.{texts-changed, texts-whole, same-number}
use Rattle.kom_model.proofs.whole.Texts.{persons-same, texts-item}

-- the bounds of a number
pub bounds : (least next most : ℕ) → is_between least next most ≡ true → (least ≤ next) × (next ≤ most)
bounds least next most is =
    let parts = and_parts (nat_le least next) (nat_le next most) is in
    (leb-true least next parts.0, leb-true next most parts.1)

-- a row that is there, and the number within its bounds
pub found-bounds : {R : Type 0} (counter_of : R → ℕ) (found : Option R) (next most : ℕ) →
    (elim found [ None ↦ false | Some row ↦ is_between (counter_of row) next most ]) ≡ true →
    (row : R) × ((found ≡ Some row) × ((counter_of row ≤ next) × (next ≤ most)))
found-bounds counter_of None next most is = absurd (true≢false (sym is))
found-bounds counter_of (Some row) next most is = (row, (refl, bounds (counter_of row) next most is))

same-found : {R : Type 0} {one other : R} → Some one ≡ Some other → one ≡ other
same-found same = cc

-- the counter of a row that is found is not above the number, which is within its bound
pub record IsWithin {R : Type 0} (found : Option R) (counter_of : R → ℕ) (next most : ℕ) : Type 0 where
  pub lower : (row : R) → found ≡ Some row → counter_of row ≤ next
  pub bounded : next ≤ most

pub is-within : {R : Type 0} (counter_of : R → ℕ) (found : Option R) (next most : ℕ) →
    (elim found [ None ↦ false | Some row ↦ is_between (counter_of row) next most ]) ≡ true →
    IsWithin found counter_of next most
is-within {R} counter_of found next most is =
    let there = found-bounds counter_of found next most is in
    record {
      lower = λ row same.
          subst (λ (one : R). counter_of one ≤ next) (same-found (sym there.1.0 ∙ same)) there.1.1.0;
      bounded = there.1.1.1;
    }

module _ (db : Db) (whole : IsWhole db) where
  -- one conference has a counter raised, and keeps all that is not counted
  conference-whole : (object : ℕ) (change : ConferenceRow → ConferenceRow) →
      ((row : ConferenceRow) → (change row).number ≡ row.number) →
      ((row : ConferenceRow) → (change row).name ≡ row.name) →
      ((row : ConferenceRow) → (change row).kind ≡ row.kind) →
      ((row : ConferenceRow) → row_of number_of_conference object db.conferences ≡ Some row →
      row.next_local ≤ (change row).next_local) →
      ((row : ConferenceRow) → row_of number_of_conference object db.conferences ≡ Some row →
      row.next_item ≤ (change row).next_item) →
      IsWhole (record db { conferences = changed_row number_of_conference object change db.conferences })
  conference-whole object change numbers names kinds locals items =
      conferences-whole db whole (changed_row number_of_conference object change db.conferences) db.next_conference
      (conferences-changed object change db.conferences numbers (λ row is. record {
        letterbox = λ letterbox. rw (kinds row) letterbox;
        local = locals row is;
        item = items row is;
      }))
      (conferences-same db.conferences db.next_conference whole.conferences object change numbers names)

  person-whole : (object : ℕ) (change : PersonRow → PersonRow) →
      ((row : PersonRow) → (change row).number ≡ row.number) →
      ((row : PersonRow) → row_of number_of_person object db.persons ≡ Some row →
      row.next_created ≤ (change row).next_created) →
      IsWhole (record db { persons = changed_row number_of_person object change db.persons })
  person-whole object change numbers created =
      persons-whole db whole (changed_row number_of_person object change db.persons)
      (persons-changed object change db.persons numbers created)
      (persons-same db.persons db.conferences whole.persons object change numbers)

  pub raise-whole : (what : RaisedCounter) (object next : ℕ) → may_raise_to what object next db ≡ true →
      IsWhole (raised_to what object next db)
  unfolding conference_of person_of text_of
  raise-whole counter.Conferences object next may =
      let within = bounds db.next_conference next (LAST_CONFERENCE + 1) (and_parts (object == 0) _ may).1 in
      let old = whole.conferences in
      let conferences : AreConferences db.conferences next = record {
        rising = old.rising;
        positive = old.positive;
        drawn = all-weaker (λ row. row.number < db.next_conference) (λ row. row.number < next)
            (λ row less. omega (arith, less, within.0)) db.conferences old.drawn;
        begun = omega (arith, within.0, old.begun);
        limited = within.1;
        short = old.short;
        apart = old.apart;
      } in
      record {
        conferences = conferences;
        persons = whole.persons;
        texts = whole.texts;
        memberships = whole.memberships;
        recipients = whole.recipients;
        links = whole.links;
        marks = whole.marks;
        items = whole.items;
      }
  raise-whole counter.Texts object next may =
      let within = bounds db.next_text next (LAST_DRAWN + 1) (and_parts (object == 0) _ may).1 in
      let old = whole.texts in
      let texts : AreTexts db.texts next db.persons = record {
        rising = old.rising;
        drawn = all-weaker (λ row. row.number < db.next_text) (λ row. row.number < next)
            (λ row less. omega (arith, less, within.0)) db.texts old.drawn;
        limited = within.1;
        short = old.short;
        numbered = old.numbered;
        created_once = old.created_once;
      } in
      record {
        conferences = whole.conferences;
        persons = whole.persons;
        texts = texts;
        memberships = whole.memberships;
        recipients = whole.recipients;
        links = whole.links;
        marks = whole.marks;
        items = whole.items;
      }
  raise-whole counter.Locals object next may =
      let within = is-within (λ (row : ConferenceRow). row.next_local)
      (row_of number_of_conference object db.conferences) next (LAST_DRAWN + 1) may in
      conference-whole object (λ row. record row { next_local = next }) (λ row. refl) (λ row. refl) (λ row. refl)
      within.lower (λ row is. same-number row.next_item)
  raise-whole counter.ConferenceItems object next may =
      let within = is-within (λ (row : ConferenceRow). row.next_item)
      (row_of number_of_conference object db.conferences) next (LAST_DRAWN + 1) may in
      conference-whole object (λ row. record row { next_item = next }) (λ row. refl) (λ row. refl) (λ row. refl)
      (λ row is. same-number row.next_local) within.lower
  raise-whole counter.Created object next may =
      let within = is-within (λ (row : PersonRow). row.next_created)
      (row_of number_of_person object db.persons) next (LAST_DRAWN + 1) may in
      person-whole object (λ row. record row { next_created = next }) (λ row. refl) within.lower
  raise-whole counter.Sessions object next may =
      person-whole object (λ row. record row { sessions = next }) (λ row. refl)
      (λ row is. same-number row.next_created)
  raise-whole counter.TextItems object next may =
      let within = is-within (λ (row : TextRow). row.next_item)
      (row_of number_of_text object db.texts) next (LAST_DRAWN + 1) may in
      let change : TextRow → TextRow = λ row. record row { next_item = next } in
      texts-whole db whole (changed_row number_of_text object change db.texts) db.next_text
      (texts-changed object change db.texts (λ row. refl) within.lower)
      (texts-item db.texts db.next_text db.persons whole.texts object change (λ row. refl) (λ row. refl)
      (λ row. refl) (λ row. refl))

pub raised-whole : (given : Raised) (db : Db) → may_raise given db ≡ true → IsWhole db → IsWhole (raised_in given db)
unfolding may_raise raised_in
raised-whole given db may whole = raise-whole db whole given.counter given.object given.next may
