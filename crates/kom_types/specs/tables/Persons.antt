-- The row of a person. (Protocol A, "Persons".)
use Rattle.std.specs.Prelude.{ℕ, ◌+◌, Bool, min, List, [], ◌++◌, replicate}
use Rattle.std.specs.Int.{w32, to_be_bytes}
use Rattle.sha2.specs.Sha256.{sha256}
use Rattle.kom_types.specs.Bits.{is_on}
use Rattle.kom_types.specs.declared.effects.Counter.{Counter}
use Rattle.kom_types.specs.declared.effects.Counter.TheVariants as counter
use Rattle.kom_types.specs.declared.effects.PersonField.{PersonField}
use Rattle.kom_types.specs.declared.effects.PersonField.TheVariants as field
use Rattle.kom_types.specs.declared.persons.PersonRow.{PersonRow}

-- by what a person is found
abbrev pub number_of_person : PersonRow → ℕ
number_of_person row = row.number

-- the privileges wheel and admin, either of which makes a session strong that enables them
abbrev pub is_mighty : ℕ → Bool
is_mighty privileges = is_on 49152 privileges

-- the privileges to make persons and conferences
abbrev pub may_create_persons : ℕ → Bool
may_create_persons privileges = is_on 4096 privileges

abbrev pub may_create_conferences : ℕ → Bool
may_create_conferences privileges = is_on 2048 privileges

-- A person as it is made: its last login is told as this moment, and it has no password yet.
abbrev pub fresh_person : ℕ → ℕ → ℕ → ℕ → PersonRow
fresh_person number privileges flags last_login = record {
  number = number;
  privileges = privileges;
  flags = flags;
  last_login = last_login;
  user = [];
  user_area = 0;
  hash = replicate 32 0;
  time_present = 0;
  sessions = 0;
  created_lines = 0;
  created_bytes = 0;
  read_texts = 0;
  text_fetches = 0;
  created_persons = 0;
  created_conferences = 0;
  next_created = 1;
}

-- What is kept of a password: the hash of the person's number, its highest byte first, and the
-- password, so that equal passwords of two persons differ. That it is SHA-256 is this server's
-- choice.
unfoldable pub password_hash : ℕ → List ℕ → List ℕ
password_hash person password = sha256 (to_be_bytes w32 person ++ password)

-- a counter that rises stops at this number
abbrev pub last_count : ℕ
last_count = 4294967295

abbrev pub raise_by : ℕ → ℕ → ℕ
raise_by by count = min (count + by) last_count

-- with one of its counters higher
abbrev pub count_up : Counter → ℕ → PersonRow → PersonRow
count_up counter.TimePresent by row = record row { time_present = raise_by by row.time_present }
count_up counter.CreatedLines by row = record row { created_lines = raise_by by row.created_lines }
count_up counter.CreatedBytes by row = record row { created_bytes = raise_by by row.created_bytes }
count_up counter.ReadTexts by row = record row { read_texts = raise_by by row.read_texts }
count_up counter.TextFetches by row = record row { text_fetches = raise_by by row.text_fetches }
count_up counter.CreatedPersons by row =
    record row { created_persons = raise_by by row.created_persons }
count_up counter.CreatedConferences by row =
    record row { created_conferences = raise_by by row.created_conferences }

-- with one field set
abbrev pub with_field : PersonField → PersonRow → PersonRow
with_field (field.Privileges privileges) row = record row { privileges = privileges }
with_field (field.Flags flags) row = record row { flags = flags }
with_field (field.UserArea text) row = record row { user_area = text }

-- with another password
abbrev pub with_hash : List ℕ → PersonRow → PersonRow
with_hash hash row = record row { hash = hash }

-- after a login: its moment, the user name that was told of it, and one session more
abbrev pub logged_in : ℕ → List ℕ → PersonRow → PersonRow
logged_in at user row =
    record row { last_login = at; user = user; sessions = raise_by 1 row.sessions }

-- with a local number drawn among its created texts, and so all before it
abbrev pub with_created_drawn : ℕ → PersonRow → PersonRow
with_created_drawn local row = record row { next_created = local + 1 }
