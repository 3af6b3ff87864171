-- What a person has not read, and where the person reads.
use Rattle.std.specs.Prelude.{ℕ, Bool, ◌&&◌, ◌||◌, ◌==◌, not, nat_lt, nat_le, List, [], ◌∷◌}
use Rattle.std.specs.Prelude.{◌++◌, length, filter, count_by, if◌then◌else◌, take_while, insert}
use Rattle.std.specs.List.{list_any}
use Rattle.kom_types.specs.declared.texts.MiscInfo.{MiscInfo}
use Rattle.kom_reader.specs.declared.rows.Row.{Row}
use Rattle.kom_reader.specs.declared.rows.Place.{Place}
use Rattle.kom_reader.specs.Links.{answers_of}

-- The unread rows; the memberships by rank; the branch, the text that comes next in it first; the
-- conference in which the person reads, and the text that was shown last, or 0.
pub record Reading : Type 0 where
  pub rows : List Row
  pub places : List Place
  pub branch : List ℕ
  pub working : ℕ
  pub last : ℕ

abbrev pub nothing : Reading
nothing = record { rows = []; places = []; branch = []; working = 0; last = 0 }

abbrev pub is_text : ℕ → Row → Bool
is_text text row = row.text == text

abbrev pub is_row_in : ℕ → Row → Bool
is_row_in conference row = row.conference == conference

abbrev pub is_place_in : ℕ → Place → Bool
is_place_in conference place = place.conference == conference

abbrev pub is_unread : ℕ → List Row → Bool
is_unread text rows = list_any (is_text text) rows

abbrev pub is_member : ℕ → List Place → Bool
is_member conference places = list_any (is_place_in conference) places

abbrev pub count_in : ℕ → List Row → ℕ
count_in conference rows = count_by (is_row_in conference) rows

-- the rows without a text, without a text in one conference, and without those of a conference
abbrev pub without_text : ℕ → List Row → List Row
without_text text rows = filter (λ row. not (row.text == text)) rows

abbrev pub without_recipient : ℕ → ℕ → List Row → List Row
without_recipient text conference rows =
    filter (λ row. not (row.text == text) || not (row.conference == conference)) rows

abbrev pub without_rows : ℕ → List Row → List Row
without_rows conference rows = filter (λ row. not (row.conference == conference)) rows

abbrev pub without_place : ℕ → List Place → List Place
without_place conference places = filter (λ place. not (place.conference == conference)) places

-- a membership has a higher rank than another: a higher priority, or the same and no higher
-- position
abbrev pub stands_before : Place → Place → Bool
stands_before other place = nat_lt place.priority other.priority
    || ((other.priority == place.priority) && nat_le other.position place.position)

-- the memberships with one more at its rank, in the place of an earlier one of that conference
abbrev pub with_place : Place → List Place → List Place
with_place place places = let others = without_place place.conference places in
    insert others (length (take_while (λ other. stands_before other place) others)) place

-- a row that is there under its conference and its local number is not added once more
abbrev pub is_same_place : Row → Row → Bool
is_same_place row other = (other.conference == row.conference) && (other.local == row.local)

abbrev pub with_row : Row → List Row → List Row
with_row row rows = if list_any (is_same_place row) rows then rows else rows ++ row ∷ []

-- a membership ends, and what is unread in it goes
abbrev pub without_conference : ℕ → Reading → Reading
without_conference conference reading = record {
  rows = without_rows conference reading.rows;
  places = without_place conference reading.places;
  branch = reading.branch;
  working = if reading.working == conference then 0 else reading.working;
  last = reading.last;
}

-- A text was shown as the one that comes next: it is read in all conferences, and what answers it
-- comes before the others of its branch.
abbrev pub read_next : ℕ → List MiscInfo → Reading → Reading
read_next text links reading = record {
  rows = without_text text reading.rows;
  places = reading.places;
  branch = answers_of links ++ reading.branch;
  working = reading.working;
  last = text;
}
