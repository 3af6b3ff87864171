-- Counters that may be raised leave rows whole, protected and listed.
use Rattle.std.proofs.Common.{◌≡◌, ℕ, ◌+◌, true, cond, ◌==◌, List, [], ◌∷◌}
use Rattle.std.proofs.Common.{Some, None, refl, subst, arith, inl, inr, eqb-true}
use Rattle.std.specs.Prelude.{IsTrue}
use Rattle.std.specs.List.{AllByRecursion}
use Rattle.std.proofs.lemmas.Bool.{cases_Bool, and_parts}
use Rattle.row_table.specs.Tables.{row_of, changed_row, IsByNumber}
use Rattle.kom_types.specs.declared.limits.TheConstants.{LAST_DRAWN}
use Rattle.kom_types.specs.declared.conferences.ConferenceRow.{ConferenceRow}
use Rattle.kom_types.specs.declared.persons.PersonRow.{PersonRow}
use Rattle.kom_types.specs.declared.raised.Raised.{Raised}
use Rattle.kom_types.specs.declared.raised.RaisedCounter.{RaisedCounter}
use Rattle.kom_types.specs.declared.raised.RaisedCounter.TheVariants as counter
use Rattle.kom_types.specs.declared.texts.TextRow.{TextRow}
use Rattle.kom_types.specs.tables.Conferences.{number_of_conference, is_secret_protected}
use Rattle.kom_types.specs.tables.Persons.{number_of_person, last_count}
use Rattle.kom_types.specs.tables.Texts.{number_of_text}
use Rattle.kom_model.specs.Db.{Db, empty_db, conference_of, person_of, text_of}
use Rattle.kom_model.specs.Effects.{IsProtected, all_fit}
use Rattle.kom_model.specs.Raising.{may_raise, raised_in, may_raise_to, raised_to}
use Rattle.kom_model.proofs.Protection.{IsProtected-apply_all}
use Rattle.kom_model.proofs.whole.Counts.{all-along, all-mapped, all-picked}
use Rattle.kom_model.proofs.whole.Effects.{effects-whole, empty-whole}
use Rattle.kom_model.proofs.whole.Raises.{bounds, is-within, raised-whole}
use Rattle.kom_snapshot.specs.Laws.{IsRestorable}
use Rattle.kom_snapshot.specs.Listed.{IsListed, IsListedConference, IsListedPerson, IsListedText}
use Rattle.kom_snapshot.specs.Snapshot.{Snapshot, stands_for, is_sound, made_by, raise_all, all_may_raise}
use Rattle.kom_snapshot.proofs.Keeping.{conferences-listed, persons-listed, texts-listed, effects-listed, empty-listed}
use Rattle.kom_snapshot.proofs.replay.Tables.{own-rows}

-- what holds of all rows holds where the row of a number is changed, if it does of that row
all-changed : {R : Type 0} (number_of : R → ℕ) (P : R → Type 0) (at : ℕ) (change : R → R) (rows : List R) →
    IsByNumber number_of rows → ((row : R) → row_of number_of at rows ≡ Some row → P row → P (change row)) →
    AllByRecursion P rows → AllByRecursion P (changed_row number_of at change rows)
all-changed {R} number_of P at change rows rising changes all =
    let Q : R → Type 0 = λ row. (row_of number_of (number_of row) rows ≡ Some row) × P row in
    all-mapped Q P (λ row. cond (number_of row == at) (change row) row) one rows
    (all-along (λ row. row_of number_of (number_of row) rows ≡ Some row) P Q (λ row mine here. (mine, here)) rows
    (own-rows number_of [] rows rows refl rising) all)
  where
    one : (row : R) → ((row_of number_of (number_of row) rows ≡ Some row) × P row) →
        P (cond (number_of row == at) (change row) row)
    one row here = elim (cases_Bool (number_of row == at)) [
      | inl is ↦ rw is (changes row (subst (λ n. row_of number_of n rows ≡ Some row)
          (eqb-true (number_of row) at is) here.0) here.1)
      | inr other ↦ rw other here.1
    ]

-- rows that are protected and listed
record IsKept (db : Db) : Type 0 where
  pub protected : IsProtected db
  pub listed : IsListed db

module _ (db : Db) (kept : IsRestorable db) where
  -- one conference has a counter raised, and keeps all that is not counted
  module _ (object : ℕ) (change : ConferenceRow → ConferenceRow)
      (kinds : (row : ConferenceRow) → (change row).kind ≡ row.kind)
      (keeps : (row : ConferenceRow) → row_of number_of_conference object db.conferences ≡ Some row →
      IsListedConference row → IsListedConference (change row)) where
    conference-kept : IsKept (record db {
      conferences = changed_row number_of_conference object change db.conferences;
    })
    conference-kept = record {
      protected = all-picked (λ row. IsTrue (is_secret_protected row.kind))
          (λ row. IsTrue (is_secret_protected row.kind)) (λ row. row.number == object) change
          (λ row is here. rw (kinds row) here) (λ row here. here) db.conferences kept.protected;
      listed = conferences-listed db kept.listed (changed_row number_of_conference object change db.conferences)
          db.next_conference (all-changed number_of_conference IsListedConference object change db.conferences
          kept.whole.conferences.rising keeps kept.listed.conferences);
    }

  module _ (object : ℕ) (change : PersonRow → PersonRow)
      (keeps : (row : PersonRow) → row_of number_of_person object db.persons ≡ Some row →
      IsListedPerson row → IsListedPerson (change row)) where
    person-kept : IsKept (record db { persons = changed_row number_of_person object change db.persons })
    person-kept = record {
      protected = kept.protected;
      listed = persons-listed db kept.listed (changed_row number_of_person object change db.persons)
          (all-changed number_of_person IsListedPerson object change db.persons kept.whole.persons.rising keeps
          kept.listed.persons);
    }

  raise-kept : (what : RaisedCounter) (object next : ℕ) → may_raise_to what object next db ≡ true →
      IsKept (raised_to what object next db)
  unfolding conference_of person_of text_of
  raise-kept counter.Conferences object next may = record {
    protected = kept.protected;
    listed = conferences-listed db kept.listed db.conferences next kept.listed.conferences;
  }
  raise-kept counter.Texts object next may =
      let within = bounds db.next_text next (LAST_DRAWN + 1) (and_parts (object == 0) _ may).1 in
      record {
        protected = kept.protected;
        listed = texts-listed db kept.listed db.texts next (omega (arith, within.0, kept.listed.begun))
            kept.listed.texts;
      }
  raise-kept counter.Locals object next may =
      let within = is-within (λ (row : ConferenceRow). row.next_local)
      (row_of number_of_conference object db.conferences) next (LAST_DRAWN + 1) may in
      conference-kept object (λ row. record row { next_local = next }) (λ row. refl)
      (λ row is here.
      let less = within.lower row is in
      record {
        next_local = (omega (arith, less, here.next_local.0), within.bounded);
        next_item = here.next_item;
      })
  raise-kept counter.ConferenceItems object next may =
      let within = is-within (λ (row : ConferenceRow). row.next_item)
      (row_of number_of_conference object db.conferences) next (LAST_DRAWN + 1) may in
      conference-kept object (λ row. record row { next_item = next }) (λ row. refl)
      (λ row is here.
      let less = within.lower row is in
      record {
        next_local = here.next_local;
        next_item = (omega (arith, less, here.next_item.0), within.bounded);
      })
  raise-kept counter.Created object next may =
      let within = is-within (λ (row : PersonRow). row.next_created)
      (row_of number_of_person object db.persons) next (LAST_DRAWN + 1) may in
      person-kept object (λ row. record row { next_created = next })
      (λ row is here.
      let less = within.lower row is in
      record {
        next_created = (omega (arith, less, here.next_created.0), within.bounded);
        user = here.user;
        no_user = here.no_user;
        sessions = here.sessions;
        time_present = here.time_present;
        created_lines = here.created_lines;
        created_bytes = here.created_bytes;
        read_texts = here.read_texts;
        text_fetches = here.text_fetches;
        created_persons = here.created_persons;
        created_conferences = here.created_conferences;
      })
  raise-kept counter.Sessions object next may =
      let within = is-within (λ (row : PersonRow). row.sessions)
      (row_of number_of_person object db.persons) next last_count may in
      person-kept object (λ row. record row { sessions = next })
      (λ row is here.
      let less = within.lower row is in
      record {
        next_created = here.next_created;
        user = here.user;
        no_user = λ none. here.no_user (omega (arith, less, none));
        sessions = within.bounded;
        time_present = here.time_present;
        created_lines = here.created_lines;
        created_bytes = here.created_bytes;
        read_texts = here.read_texts;
        text_fetches = here.text_fetches;
        created_persons = here.created_persons;
        created_conferences = here.created_conferences;
      })
  raise-kept counter.TextItems object next may =
      let within = is-within (λ (row : TextRow). row.next_item)
      (row_of number_of_text object db.texts) next (LAST_DRAWN + 1) may in
      let change : TextRow → TextRow = λ row. record row { next_item = next } in
      record {
        protected = kept.protected;
        listed = texts-listed db kept.listed (changed_row number_of_text object change db.texts) db.next_text
            kept.listed.begun (all-changed number_of_text IsListedText object change db.texts
            kept.whole.texts.rising
            (λ row is here.
            let less = within.lower row is in
            record {
              positive = here.positive;
              lines = here.lines;
              next_item = (omega (arith, less, here.next_item.0), within.bounded);
            }) kept.listed.texts);
      }

pub raised-kept : (given : Raised) (db : Db) → may_raise given db ≡ true → IsRestorable db →
    IsRestorable (raised_in given db)
unfolding may_raise raised_in
raised-kept given db may kept =
    let keeps = raise-kept db kept given.counter given.object given.next may in
    record { whole = raised-whole given db may kept.whole; protected = keeps.protected; listed = keeps.listed }

all-raised-kept : (given : List Raised) (db : Db) → all_may_raise given db ≡ true → IsRestorable db →
    IsRestorable (raise_all given db)
all-raised-kept [] db may kept = kept
all-raised-kept (given ∷ others) db may kept =
    let parts = and_parts (may_raise given db) (all_may_raise others (raised_in given db)) may in
    all-raised-kept others (raised_in given db) parts.1 (raised-kept given db parts.0 kept)

-- the rows that any snapshot stands for are so
pub read-kept : (snapshot : Snapshot) (db : Db) → stands_for snapshot ≡ Some db → IsRestorable db
read-kept snapshot db stands = elim (cases_Bool (is_sound snapshot)) [
  | inl sound ↦
      let rows : Some (raise_all snapshot.raised (made_by snapshot)) ≡ Some db = rw sound at stands in
      let same : raise_all snapshot.raised (made_by snapshot) ≡ db = cc in
      let parts = and_parts (all_fit snapshot.effects empty_db)
      (all_may_raise snapshot.raised (made_by snapshot)) sound in
      subst IsRestorable same (all-raised-kept snapshot.raised (made_by snapshot) parts.1 (record {
        whole = effects-whole snapshot.effects empty_db empty-whole;
        protected = IsProtected-apply_all snapshot.effects empty_db tt;
        listed = effects-listed snapshot.effects empty_db empty-whole empty-listed;
      }))
  | inr unsound ↦ let none : None ≡ Some db = rw unsound at stands in absurd (cc)
]
