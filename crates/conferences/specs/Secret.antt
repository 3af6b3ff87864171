-- The numbers of the secret conferences, listed beside the rows.
use Rattle.std.specs.Prelude.{◌≡◌, ℕ, ◌≤◌, Bool, List, length, map, filter, if◌then◌else◌}
use Rattle.kom_types.specs.declared.conferences.ConferenceRow.{ConferenceRow}
use Rattle.kom_types.specs.tables.Conferences.{number_of_conference, is_secret_conference}
use Rattle.row_table.specs.Tables.{with_row, without_row, IsByNumber}

-- What a list of numbers is to its callers: the numbers, and for how many there is room.
pub record Listed : Type 0 where
  pub numbers : List ℕ
  pub room : ℕ

-- each number is below those after it
abbrev pub IsRising : List ℕ → Type 0
IsRising numbers = IsByNumber (λ number. number) numbers

-- rising numbers, with a number in its place or without it
abbrev pub with_if : Bool → ℕ → List ℕ → List ℕ
with_if is_in number numbers =
    if is_in then with_row (λ other. other) number numbers
    else without_row (λ other. other) number numbers

-- the numbers of the secret conferences
abbrev pub secret_numbers : List ConferenceRow → List ℕ
secret_numbers rows = map number_of_conference (filter (λ row. is_secret_conference row.kind) rows)

-- the secret conferences are listed, and there is room for all conferences
pub record IsListed (rows : List ConferenceRow) (list : Listed) : Type 0 where
  pub numbers : list.numbers ≡ secret_numbers rows
  pub room : length rows ≤ list.room
