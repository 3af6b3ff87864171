-- How the stored rows are kept: in tables, beside the names of the conferences.
use Rattle.std.specs.Prelude.{◌≡◌, ℕ, ◌<◌, List, map}
use Rattle.std.specs.List.{AllByRecursion}
use Rattle.row_table.specs.Tables.{Tabled}
use Rattle.aux_items.specs.Items.{Attached}
use Rattle.kom_types.specs.declared.conferences.ConferenceRow.{ConferenceRow}
use Rattle.kom_types.specs.declared.persons.PersonRow.{PersonRow}
use Rattle.kom_types.specs.declared.texts.TextRow.{TextRow}
use Rattle.kom_model.specs.Db.{Db}
use Rattle.kom_model.specs.Whole.{IsWhole}
use Rattle.memberships.specs.Table.{Table}
use Rattle.name_lookup.specs.NamedRows.{Named, Lookup, named_row}
use Rattle.texts.specs.Stored.{Stored as Texts}
use Rattle.kom_state.specs.Room.{Stored}

-- what the tables are as stored rows
abbrev pub as_stored : Tabled ConferenceRow → Tabled PersonRow → Table → Lookup → Texts → Attached
    → ℕ → ℕ → Stored
as_stored conferences persons memberships names texts items next_conference next_text = record {
  db = record {
    conferences = conferences.rows;
    persons = persons.rows;
    memberships = memberships.rows;
    reads = memberships.reads;
    texts = texts.rows.texts;
    recipients = texts.rows.recipients;
    links = texts.rows.links;
    marks = texts.rows.marks;
    items = items.rows;
    next_conference = next_conference;
    next_text = next_text;
  };
  room = record {
    conferences = conferences.spare;
    persons = persons.spare;
    memberships = memberships.spare;
    of_person = memberships.person_rooms;
    of_conference = memberships.conference_rooms;
    name = names.ready;
    texts = texts.room;
    items = items;
  };
}

-- the number and the name of a conference
abbrev pub name_row : ConferenceRow → Named
name_row row = named_row row.number row.name

-- the numbers of the conferences are below this one
abbrev pub AreBelow : ℕ → List ConferenceRow → Type 0
AreBelow next rows = AllByRecursion (λ row. row.number < next) rows

-- the numbers of the texts are below this one
abbrev pub AreTextsBelow : ℕ → List TextRow → Type 0
AreTextsBelow next rows = AllByRecursion (λ row. row.number < next) rows

-- no person gives a text that it makes the number 0
abbrev pub DrawFromOne : List PersonRow → Type 0
DrawFromOne rows = AllByRecursion (λ row. 0 < row.next_created) rows

-- The rows are whole; the names are those of the conferences, in their order; and no text gets the
-- number 0 among those of its author.
pub record IsKept (db : Db) (names : List Named) : Type 0 where
  pub whole : IsWhole db
  pub same_names : names ≡ map name_row db.conferences
  pub from_one : DrawFromOne db.persons
