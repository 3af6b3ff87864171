-- What raising a counter makes of the stored rows, and when it may be raised. That counters are
-- raised where effects alone would leave them too low is this server's own choice.
use Rattle.std.specs.Prelude.{◌≡◌, ℕ, ◌+◌, Bool, true, false, ◌==◌, ◌&&◌, nat_le, Some, None}
use Rattle.kom_types.specs.declared.limits.TheConstants.{LAST_CONFERENCE, LAST_DRAWN}
use Rattle.kom_types.specs.declared.conferences.ConferenceRow.{ConferenceRow}
use Rattle.kom_types.specs.declared.persons.PersonRow.{PersonRow}
use Rattle.kom_types.specs.declared.raised.Raised.{Raised}
use Rattle.kom_types.specs.declared.raised.RaisedCounter.{RaisedCounter}
use Rattle.kom_types.specs.declared.raised.RaisedCounter.TheVariants as counter
use Rattle.kom_types.specs.declared.texts.TextRow.{TextRow}
use Rattle.kom_types.specs.tables.Persons.{last_count}
use Rattle.kom_model.specs.Db.{Db, conference_of, person_of, text_of}
use Rattle.kom_model.specs.Effects.{with_changed_conference, with_changed_person}
use Rattle.kom_model.specs.Effects.{with_changed_text}
use Rattle.kom_model.specs.Whole.{IsWhole}

-- a counter is not below where it is, and not above its bound
abbrev pub is_between : ℕ → ℕ → ℕ → Bool
is_between least next most = nat_le least next && nat_le next most

-- the same of a counter of a conference, a person or a text that is there
abbrev pub may_raise_conference : (ConferenceRow → ℕ) → ℕ → ℕ → Db → Bool
may_raise_conference counter_of object next db = elim (conference_of db object) [
  | None ↦ false
  | Some row ↦ is_between (counter_of row) next (LAST_DRAWN + 1)
]

abbrev pub may_raise_person : (PersonRow → ℕ) → ℕ → ℕ → ℕ → Db → Bool
may_raise_person counter_of object next most db = elim (person_of db object) [
  | None ↦ false
  | Some row ↦ is_between (counter_of row) next most
]

abbrev pub may_raise_text : (TextRow → ℕ) → ℕ → ℕ → Db → Bool
may_raise_text counter_of object next db = elim (text_of db object) [
  | None ↦ false
  | Some row ↦ is_between (counter_of row) next (LAST_DRAWN + 1)
]

-- whether this counter of an object may be set to a number
abbrev pub may_raise_to : RaisedCounter → ℕ → ℕ → Db → Bool
may_raise_to counter.Conferences object next db =
    object == 0 && is_between db.next_conference next (LAST_CONFERENCE + 1)
may_raise_to counter.Texts object next db =
    object == 0 && is_between db.next_text next (LAST_DRAWN + 1)
may_raise_to counter.Locals object next db =
    may_raise_conference (λ row. row.next_local) object next db
may_raise_to counter.Created object next db =
    may_raise_person (λ row. row.next_created) object next (LAST_DRAWN + 1) db
may_raise_to counter.TextItems object next db =
    may_raise_text (λ row. row.next_item) object next db
may_raise_to counter.ConferenceItems object next db =
    may_raise_conference (λ row. row.next_item) object next db
may_raise_to counter.Sessions object next db =
    may_raise_person (λ row. row.sessions) object next last_count db

-- with this counter of an object set to a number
abbrev pub raised_to : RaisedCounter → ℕ → ℕ → Db → Db
raised_to counter.Conferences object next db = record db { next_conference = next }
raised_to counter.Texts object next db = record db { next_text = next }
raised_to counter.Locals object next db =
    with_changed_conference object (λ row. record row { next_local = next }) db
raised_to counter.Created object next db =
    with_changed_person object (λ row. record row { next_created = next }) db
raised_to counter.TextItems object next db =
    with_changed_text object (λ row. record row { next_item = next }) db
raised_to counter.ConferenceItems object next db =
    with_changed_conference object (λ row. record row { next_item = next }) db
raised_to counter.Sessions object next db =
    with_changed_person object (λ row. record row { sessions = next }) db

-- whether a counter may be raised so; and the rows then
unfoldable pub may_raise : Raised → Db → Bool
may_raise given db = may_raise_to given.counter given.object given.next db

unfoldable pub raised_in : Raised → Db → Db
raised_in given db = raised_to given.counter given.object given.next db

-- a counter that may be raised leaves whole rows whole
abbrev pub RaisesLeaveWhole : Type 0
RaisesLeaveWhole = (given : Raised) (db : Db) → may_raise given db ≡ true → IsWhole db
    → IsWhole (raised_in given db)
