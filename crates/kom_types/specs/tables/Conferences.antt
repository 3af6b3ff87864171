-- The row of a conference. (Protocol A, "Conferences".)
use Rattle.std.specs.Prelude.{ℕ, ◌+◌, Bool, ◌||◌, not, List}
use Rattle.kom_types.specs.Bits.{is_on}
use Rattle.kom_types.specs.declared.conferences.ConferenceHead.{ConferenceHead}
use Rattle.kom_types.specs.declared.conferences.ConferenceRow.{ConferenceRow}
use Rattle.kom_types.specs.declared.effects.ConfField.{ConfField}
use Rattle.kom_types.specs.declared.effects.ConfField.TheVariants as field

-- the bits of a conference's type: its texts are hidden from strangers; so is the conference; it is
-- a person's letterbox
abbrev pub is_read_protected : ℕ → Bool
is_read_protected kind = is_on 128 kind

abbrev pub is_secret_conference : ℕ → Bool
is_secret_conference kind = is_on 32 kind

abbrev pub is_letterbox : ℕ → Bool
is_letterbox kind = is_on 16 kind

-- texts without an author may be sent to it
abbrev pub allows_anonymous : ℕ → Bool
allows_anonymous kind = is_on 8 kind

-- it takes no secret memberships
abbrev pub forbids_secret : ℕ → Bool
forbids_secret kind = is_on 4 kind

-- a secret conference is read-protected too
abbrev pub is_secret_protected : ℕ → Bool
is_secret_protected kind = not (is_secret_conference kind) || is_read_protected kind

-- by what a conference is found
abbrev pub number_of_conference : ConferenceRow → ℕ
number_of_conference row = row.number

-- what of a conference the rights of persons hang on
abbrev pub head_of : ConferenceRow → ConferenceHead
head_of row = record { kind = row.kind; supervisor = row.supervisor; submitters = row.submitters }

-- how many days texts are kept, and commented ones, until that is set: this server's choice
abbrev pub first_nice : ℕ
first_nice = 77

-- A conference as it is made: it was last written at its creation, and belongs to its supervisor.
abbrev pub fresh_conference : ℕ → List ℕ → ℕ → ℕ → ℕ → ℕ → ConferenceRow
fresh_conference number name kind at creator supervisor = record {
  number = number;
  name = name;
  kind = kind;
  created = at;
  last_written = at;
  creator = creator;
  presentation = 0;
  motd = 0;
  supervisor = supervisor;
  submitters = 0;
  super_conference = 0;
  nice = first_nice;
  keep_commented = first_nice;
  expire = 0;
  next_local = 1;
  next_item = 1;
}

-- with one field set
abbrev pub with_field : ConfField → ConferenceRow → ConferenceRow
with_field (field.Presentation text) row = record row { presentation = text }
with_field (field.Motd text) row = record row { motd = text }
with_field (field.Supervisor conference) row = record row { supervisor = conference }
with_field (field.PermittedSubmitters conference) row = record row { submitters = conference }
with_field (field.SuperConference conference) row = record row { super_conference = conference }
with_field (field.Kind kind) row = record row { kind = kind }
with_field (field.Nice days) row = record row { nice = days }
with_field (field.KeepCommented days) row = record row { keep_commented = days }
with_field (field.Expire days) row = record row { expire = days }
with_field (field.LastWritten at) row = record row { last_written = at }

-- with another name
abbrev pub with_name : List ℕ → ConferenceRow → ConferenceRow
with_name name row = record row { name = name }

-- with a local number drawn, and so all before it
abbrev pub with_local_drawn : ℕ → ConferenceRow → ConferenceRow
with_local_drawn local row = record row { next_local = local + 1 }

-- with the number of an aux-item drawn, and so all before it
abbrev pub with_item_drawn : ℕ → ConferenceRow → ConferenceRow
with_item_drawn number row = record row { next_item = number + 1 }
