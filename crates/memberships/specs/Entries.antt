-- Memberships as they are kept: by person and conference, with the turn in which each joined.
use Rattle.std.specs.Prelude.{ℕ, Bool, ◌==◌, ◌&&◌, nat_eq, List, map, filter, Option, option_map}
use Rattle.std.specs.List.{position_or_len}
use Rattle.std.specs.Map.{lookup}
use Rattle.kom_types.specs.declared.memberships.MembershipRow.{MembershipRow}
use Rattle.read_ranges.specs.Numbers.{ReadSet, ranges_of}
use Rattle.read_ranges.specs.Reads.{ReadRow}
use Rattle.memberships.specs.declared.kept.Kept.{Kept}
use Rattle.memberships.specs.Order.{sort_by}

-- a person and a conference
abbrev pub Key : Type 0
Key = ℕ × ℕ

-- a person, a conference, and what is kept of the membership
abbrev pub Entry : Type 0
Entry = Key × Kept

abbrev pub same_key : Key → Key → Bool
same_key one other = nat_eq one.0 other.0 && nat_eq one.1 other.1

-- what is kept of a row, with a turn, a moment and a set of read numbers of its own
abbrev pub kept_of : MembershipRow → ℕ → ℕ → ReadSet → Kept
kept_of row turn last_time_read read = record {
  turn = turn;
  priority = row.priority;
  added_by = row.added_by;
  added_at = row.added_at;
  last_time_read = last_time_read;
  kind = row.kind;
  read = read;
}

-- with a set of read numbers, and the moment at which it was set
abbrev pub kept_with_read : ℕ → ReadSet → Kept → Kept
kept_with_read at read kept = record kept { last_time_read = at; read = read }

-- the row of what is kept, at a position
abbrev pub kept_row : ℕ → ℕ → ℕ → Kept → MembershipRow
kept_row person conference position kept = record {
  person = person;
  conference = conference;
  position = position;
  priority = kept.priority;
  added_by = kept.added_by;
  added_at = kept.added_at;
  last_time_read = kept.last_time_read;
  kind = kept.kind;
}

-- the place of a number in a list
abbrev pub place_of : ℕ → List ℕ → ℕ
place_of number list = position_or_len (nat_eq number) list

-- the row of an entry: its position is the place of its conference in the list of its person
abbrev pub row_of : (ℕ → List ℕ) → Entry → MembershipRow
row_of lists e = kept_row e.0.0 e.0.1 (place_of e.0.1 (lists e.0.0)) e.1

-- the entries in the order of joining
unfoldable pub in_turn : List Entry → List Entry
in_turn entries = sort_by (λ e. e.1.turn) entries

-- the rows of the entries, in the order of joining
unfoldable pub rows_of : (ℕ → List ℕ) → List Entry → List MembershipRow
rows_of lists entries = map (row_of lists) (in_turn entries)

-- what the person of an entry has read of its conference
abbrev pub read_row : Entry → ReadRow
read_row e = record { person = e.0.0; conference = e.0.1; ranges = ranges_of e.1.read.numbers }

-- what was read in each membership, in the order of joining
unfoldable pub reads_of : List Entry → List ReadRow
reads_of entries = map read_row (in_turn entries)

-- the persons in a conference, in the order of joining
abbrev pub persons_in : ℕ → List Entry → List ℕ
persons_in conference entries =
    map (λ e. e.0.0) (filter (λ e. e.0.1 == conference) (in_turn entries))

-- what is kept of the membership of a key
abbrev pub kept_at : Key → List Entry → Option Kept
kept_at key entries = lookup (same_key key) entries

-- the turn in which the person of a key joined its conference
abbrev pub turn_of : Key → List Entry → Option ℕ
turn_of key entries = option_map (λ kept. kept.turn) (kept_at key entries)

-- a key with the turn in which its person joined its conference
abbrev pub timed_at : List Entry → Key → Option (ℕ × Key)
timed_at entries key = option_map (λ kept. (kept.turn, key)) (kept_at key entries)
