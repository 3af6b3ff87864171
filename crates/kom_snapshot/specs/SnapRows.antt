-- Snapshots that were worked out by hand.
use Rattle.std.specs.Prelude.{◌≡◌, ℕ, Bool, true, false, List, [], ◌∷◌, ◌++◌, length, codes}
use Rattle.std.specs.Prelude.{map, replicate, Some, None, option_map}
use Rattle.kom_types.specs.declared.aux_items.AuxRow.{AuxRow}
use Rattle.kom_types.specs.declared.aux_items.ItemRow.{ItemRow}
use Rattle.kom_types.specs.declared.conferences.ConferenceRow.{ConferenceRow}
use Rattle.kom_types.specs.declared.effects.ConfField.TheVariants as field
use Rattle.kom_types.specs.declared.effects.Counter.TheVariants as counted
use Rattle.kom_types.specs.declared.effects.Effect.{Effect}
use Rattle.kom_types.specs.declared.effects.Effect.TheVariants as effect
use Rattle.kom_types.specs.declared.effects.PersonField.TheVariants as person_field
use Rattle.kom_types.specs.declared.memberships.MembershipRow.{MembershipRow}
use Rattle.kom_types.specs.declared.memberships.ReadRange.{ReadRange}
use Rattle.kom_types.specs.declared.persons.PersonRow.{PersonRow}
use Rattle.kom_types.specs.declared.texts.MarkRow.{MarkRow}
use Rattle.kom_types.specs.declared.texts.Recipient.{Recipient}
use Rattle.kom_types.specs.declared.texts.TextLink.{TextLink}
use Rattle.kom_types.specs.declared.texts.TextRow.{TextRow}
use Rattle.read_ranges.specs.Reads.{ReadRow}
use Rattle.kom_model.specs.Db.{Db, empty_db}
use Rattle.kom_model.specs.Effects.{apply_all, all_fit}
use Rattle.kom_model.specs.Initial.{initial}
use Rattle.kom_types.specs.declared.raised.Raised.{Raised}
use Rattle.kom_types.specs.declared.raised.RaisedCounter.TheVariants as counter
use Rattle.kom_snapshot.specs.Snap.{snap, raise_to}
use Rattle.kom_model.specs.Raising.{may_raise}
use Rattle.kom_snapshot.specs.Snapshot.{Snapshot, stands_for}

abbrev pub recipient : ℕ → ℕ → ℕ → Recipient
recipient text conference local = record {
  text = text;
  conference = conference;
  tag = 0;
  local = local;
  sender = 0;
  at = 30;
}

abbrev pub comment : ℕ → ℕ → TextLink
comment child parent =
    record { child = child; parent = parent; footnote = false; sender = 0; at = 30 }

abbrev pub item : ℕ → AuxRow
item number = record {
  number = number;
  tag = 1;
  creator = 5;
  at = 40;
  flags = 0;
  limit = 0;
  content = codes "x";
}

abbrev pub range : ℕ → ℕ → ReadRange
range first last = record { first = first; last = last }

-- The history of some rows: a conference, two persons, and what they did. The last text, the last
-- local number and the last aux-item are gone again; a person's first membership is no more at the
-- place at which it was set; and the text 7 was numbered among those of its author before 3 was.
abbrev pub history : List Effect
history =
    effect.ConfAdded 1 (codes "News") 8 10 5 5
    ∷ effect.ConfAdded 5 (codes "Anna") 152 10 5 5
    ∷ effect.ConfAdded 6 (codes "Bo") 152 11 6 6
    ∷ effect.PersonAdded 5 7168 1 10
    ∷ effect.PersonAdded 6 0 0 11
    ∷ effect.MemberSet 6 6 0 255 6 11 0
    ∷ effect.MemberSet 5 5 0 255 5 10 0
    ∷ effect.MemberSet 6 1 0 100 5 12 128
    ∷ effect.MemberSet 6 5 9 50 6 13 0
    ∷ effect.ConfNamed 1 (codes "Olds")
    ∷ effect.ConfField 1 (field.Nice 3)
    ∷ effect.LoggedIn 5 20 (codes "a")
    ∷ effect.LoggedIn 5 21 (codes "anna")
    ∷ effect.Password 5 (replicate 32 4)
    ∷ effect.Counted 5 counted.ReadTexts 2
    ∷ effect.Counted 5 counted.ReadTexts 3
    ∷ effect.TextAdded 3 5 30 (codes "one")
    ∷ effect.TextAdded 7 5 31 (10 ∷ 10 ∷ [])
    ∷ effect.TextAdded 9 0 32 []
    ∷ effect.RecipientAdded (recipient 7 1 2)
    ∷ effect.RecipientAdded (recipient 3 6 4)
    ∷ effect.RecipientAdded (recipient 3 1 5)
    ∷ effect.RecipientAdded (recipient 9 1 8)
    ∷ effect.LinkAdded (comment 7 3)
    ∷ effect.Created 5 1 7
    ∷ effect.Created 5 6 3
    ∷ effect.ReadSet 6 1 50 (range 1 2 ∷ range 3 4 ∷ range 8 9 ∷ [])
    ∷ effect.MarkSet 6 7 1
    ∷ effect.MarkSet 5 3 2
    ∷ effect.MarkSet 6 3 3
    ∷ effect.MarkSet 6 7 4
    ∷ effect.AuxAdded false 1 (item 2)
    ∷ effect.AuxAdded true 3 (item 1)
    ∷ effect.AuxAdded false 1 (item 5)
    ∷ effect.AuxGone false 1 5
    ∷ effect.RecipientGone 9 1
    ∷ effect.TextGone 9
    ∷ effect.PersonField 5 (person_field.UserArea 3)
    ∷ []

-- the conferences, the persons and the texts that it leaves, but for what is not told here
abbrev pub conference_row : ℕ → List ℕ → ℕ → ℕ → ℕ → ConferenceRow
conference_row number name kind at person = record {
  number = number;
  name = name;
  kind = kind;
  created = at;
  last_written = at;
  creator = person;
  presentation = 0;
  motd = 0;
  supervisor = person;
  submitters = 0;
  super_conference = 0;
  nice = 77;
  keep_commented = 77;
  expire = 0;
  next_local = 1;
  next_item = 1;
}

abbrev pub person_row : ℕ → PersonRow
person_row number = record {
  number = number;
  privileges = 0;
  flags = 0;
  last_login = 11;
  user = [];
  user_area = 0;
  hash = replicate 32 0;
  time_present = 0;
  sessions = 0;
  created_lines = 0;
  created_bytes = 0;
  read_texts = 0;
  text_fetches = 0;
  created_persons = 0;
  created_conferences = 0;
  next_created = 1;
}

abbrev pub text_row : ℕ → ℕ → List ℕ → ℕ → ℕ → ℕ → TextRow
text_row number at body lines created_local next_item = record {
  number = number;
  author = 5;
  created = at;
  body = body;
  lines = lines;
  created_local = created_local;
  next_item = next_item;
}

abbrev pub member_row : ℕ → ℕ → ℕ → ℕ → ℕ → ℕ → ℕ → MembershipRow
member_row person conference position priority added_at last_time_read kind = record {
  person = person;
  conference = conference;
  position = position;
  priority = priority;
  added_by = person;
  added_at = added_at;
  last_time_read = last_time_read;
  kind = kind;
}

abbrev pub read_row : ℕ → ℕ → List ReadRange → ReadRow
read_row person conference ranges =
    record { person = person; conference = conference; ranges = ranges }

abbrev pub mark_row : ℕ → ℕ → ℕ → MarkRow
mark_row person text kind = record { person = person; text = text; kind = kind }

abbrev pub item_row : Bool → ℕ → ℕ → ItemRow
item_row on_text object number =
    record { on_text = on_text; object = object; item = item number }

abbrev pub rows : Db
rows = record {
  conferences =
      (record (conference_row 1 (codes "Olds") 8 10 5) { nice = 3; next_local = 9; next_item = 6 })
      ∷ conference_row 5 (codes "Anna") 152 10 5
      ∷ (record (conference_row 6 (codes "Bo") 152 11 6) { next_local = 5 })
      ∷ [];
  persons = (record (person_row 5) {
    privileges = 7168;
    flags = 1;
    last_login = 21;
    user = codes "anna";
    user_area = 3;
    hash = replicate 32 4;
    sessions = 2;
    read_texts = 5;
    next_created = 7;
  })
      ∷ person_row 6
      ∷ [];
  memberships = member_row 6 6 1 255 11 11 0 ∷ member_row 5 5 0 255 10 10 0
      ∷ (record (member_row 6 1 0 100 12 50 128) { added_by = 5 })
      ∷ member_row 6 5 2 50 13 13 0 ∷ [];
  reads = read_row 6 6 [] ∷ read_row 5 5 []
      ∷ read_row 6 1 (range 1 4 ∷ range 8 9 ∷ []) ∷ read_row 6 5 [] ∷ [];
  texts = text_row 3 30 (codes "one") 0 6 2 ∷ text_row 7 31 (10 ∷ 10 ∷ []) 2 1 1 ∷ [];
  recipients = recipient 7 1 2 ∷ recipient 3 6 4 ∷ recipient 3 1 5 ∷ [];
  links = comment 7 3 ∷ [];
  marks = mark_row 6 7 4 ∷ mark_row 5 3 2 ∷ mark_row 6 3 3 ∷ [];
  items = item_row false 1 2 ∷ item_row true 3 1 ∷ [];
  next_conference = 7;
  next_text = 10;
}

-- a conference that was made at a moment and last written at it, with nothing set but its nice
abbrev pub conference : ℕ → List ℕ → ℕ → ℕ → ℕ → ℕ → List Effect
conference number name kind at person nice =
    effect.ConfAdded number name kind at person person
    ∷ effect.ConfField number (field.Presentation 0)
    ∷ effect.ConfField number (field.Motd 0)
    ∷ effect.ConfField number (field.PermittedSubmitters 0)
    ∷ effect.ConfField number (field.SuperConference 0)
    ∷ effect.ConfField number (field.Nice nice)
    ∷ effect.ConfField number (field.KeepCommented 77)
    ∷ effect.ConfField number (field.Expire 0)
    ∷ effect.ConfField number (field.LastWritten at)
    ∷ []

-- the snapshot of these rows
abbrev pub listed_effects : List Effect
listed_effects =
    conference 1 (codes "Olds") 8 10 5 3
    ++ conference 5 (codes "Anna") 152 10 5 77
    ++ conference 6 (codes "Bo") 152 11 6 77
    ++ effect.PersonAdded 5 7168 1 21
    ∷ effect.PersonField 5 (person_field.UserArea 3)
    ∷ effect.Password 5 (replicate 32 4)
    ∷ effect.LoggedIn 5 21 (codes "anna")
    ∷ effect.Counted 5 counted.ReadTexts 5
    ∷ effect.PersonAdded 6 0 0 11
    ∷ effect.Password 6 (replicate 32 0)
    ∷ effect.TextAdded 3 5 30 (codes "one")
    ∷ effect.TextAdded 7 5 31 (10 ∷ 10 ∷ [])
    ∷ effect.RecipientAdded (recipient 7 1 2)
    ∷ effect.RecipientAdded (recipient 3 6 4)
    ∷ effect.RecipientAdded (recipient 3 1 5)
    ∷ effect.LinkAdded (comment 7 3)
    ∷ effect.Created 5 1 7
    ∷ effect.Created 5 6 3
    ∷ effect.MemberSet 6 6 0 255 6 11 0
    ∷ effect.ReadSet 6 6 11 []
    ∷ effect.MemberSet 5 5 0 255 5 10 0
    ∷ effect.ReadSet 5 5 10 []
    ∷ effect.MemberSet 6 1 0 100 5 12 128
    ∷ effect.ReadSet 6 1 50 (range 1 4 ∷ range 8 9 ∷ [])
    ∷ effect.MemberSet 6 5 2 50 6 13 0
    ∷ effect.ReadSet 6 5 13 []
    ∷ effect.MarkSet 6 7 4
    ∷ effect.MarkSet 5 3 2
    ∷ effect.MarkSet 6 3 3
    ∷ effect.AuxAdded false 1 (item 2)
    ∷ effect.AuxAdded true 3 (item 1)
    ∷ []

abbrev pub listed_counters : List Raised
listed_counters =
    raise_to counter.Conferences 0 7
    ∷ raise_to counter.Texts 0 10
    ∷ raise_to counter.Locals 1 9
    ∷ raise_to counter.Locals 5 1
    ∷ raise_to counter.Locals 6 5
    ∷ raise_to counter.Created 5 7
    ∷ raise_to counter.Created 6 1
    ∷ raise_to counter.TextItems 3 2
    ∷ raise_to counter.TextItems 7 1
    ∷ raise_to counter.ConferenceItems 1 6
    ∷ raise_to counter.ConferenceItems 5 1
    ∷ raise_to counter.ConferenceItems 6 1
    ∷ raise_to counter.Sessions 5 2
    ∷ raise_to counter.Sessions 6 0
    ∷ []

abbrev pub without_counters : Snapshot
without_counters = record { effects = listed_effects; raised = [] }

-- what the definitions of snapshots say of cases that were worked out by hand
pub record SnapRows : Type 0 where
  pub history_fits : all_fit history empty_db ≡ true
  pub history_makes : apply_all history empty_db ≡ rows
  pub listed : snap rows ≡ record { effects = listed_effects; raised = listed_counters }
  pub stands : stands_for (snap rows) ≡ Some rows
  pub of_nothing : snap empty_db
      ≡ record {
        effects = [];
        raised = raise_to counter.Conferences 0 1 ∷ raise_to counter.Texts 0 1 ∷ [];
      }
  pub nothing_stands : stands_for (snap empty_db) ≡ Some empty_db
  pub initial_effects : (password : List ℕ) (moment : ℕ)
      → length (snap (initial password moment)).effects ≡ 49
  pub initial_counters : (password : List ℕ) (moment : ℕ)
      → length (snap (initial password moment)).raised ≡ 14
  pub next_text_forgotten : option_map (λ db. db.next_text) (stands_for without_counters) ≡ Some 8
  pub next_locals_forgotten :
      option_map (λ db. map (λ row. row.next_local) db.conferences) (stands_for without_counters)
      ≡ Some (6 ∷ 1 ∷ 5 ∷ [])
  pub sessions_forgotten :
      option_map (λ db. map (λ row. row.sessions) db.persons) (stands_for without_counters)
      ≡ Some (1 ∷ 0 ∷ [])
  pub does_not_fit :
      stands_for (record { effects = effect.RecipientAdded (recipient 7 1 2) ∷ []; raised = [] })
      ≡ None
  pub raised_no_further : may_raise (raise_to counter.Locals 1 9) rows ≡ true
  pub lowered : may_raise (raise_to counter.Locals 1 8) rows ≡ false
  pub last_local : may_raise (raise_to counter.Locals 1 4294967295) rows ≡ true
  pub past_the_last_local : may_raise (raise_to counter.Locals 1 4294967296) rows ≡ false
  pub of_no_conference : may_raise (raise_to counter.Locals 2 9) rows ≡ false
  pub of_no_person : may_raise (raise_to counter.Created 1 9) rows ≡ false
  pub of_no_text : may_raise (raise_to counter.TextItems 9 9) rows ≡ false
  pub all_of_an_object : may_raise (raise_to counter.Texts 1 10) rows ≡ false
  pub conferences_of_an_object : may_raise (raise_to counter.Conferences 1 10) rows ≡ false
  pub last_conference : may_raise (raise_to counter.Conferences 0 65536) rows ≡ true
  pub past_the_last_conference : may_raise (raise_to counter.Conferences 0 65537) rows ≡ false
  pub last_text : may_raise (raise_to counter.Texts 0 4294967295) rows ≡ true
  pub past_the_last_text : may_raise (raise_to counter.Texts 0 4294967296) rows ≡ false
  pub created_lowered : may_raise (raise_to counter.Created 5 6) rows ≡ false
  pub last_created : may_raise (raise_to counter.Created 5 4294967295) rows ≡ true
  pub items_lowered : may_raise (raise_to counter.TextItems 3 1) rows ≡ false
  pub conference_items_lowered : may_raise (raise_to counter.ConferenceItems 1 5) rows ≡ false
  pub sessions_lowered : may_raise (raise_to counter.Sessions 5 1) rows ≡ false
  pub last_session : may_raise (raise_to counter.Sessions 5 4294967295) rows ≡ true
  pub past_the_last_session : may_raise (raise_to counter.Sessions 5 4294967296) rows ≡ false
