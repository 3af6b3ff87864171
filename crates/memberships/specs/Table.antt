-- A table of memberships, as contracts see it.
use Rattle.std.specs.Prelude.{◌≡◌, ◌≢◌, ℕ, ◌+◌, ◌≤◌, List, map, All}
use Rattle.std.specs.List.{IsDistinct, range_with_len}
use Rattle.kom_types.specs.declared.memberships.MembershipRow.{MembershipRow}
use Rattle.kom_types.specs.tables.Memberships.{memberships_of, count_of}
use Rattle.read_ranges.specs.Numbers.{AreRanges}
use Rattle.read_ranges.specs.Reads.{ReadRow}
use Rattle.row_slots.specs.Lists.{room_in}
use Rattle.memberships.specs.Entries.{Key, same_key}

-- The rows in the order of joining; what was read in each, in the same order; how many more there
-- are turns for, and room without memory; and the persons and the conferences that a list is kept
-- for, each with the room for memberships, were they secret.
pub record Table : Type 0 where
  pub rows : List MembershipRow
  pub reads : List ReadRow
  pub spare : ℕ
  pub person_rooms : List (ℕ × ℕ)
  pub conference_rooms : List (ℕ × ℕ)

-- how many more memberships there is room for in the list of a person
abbrev pub room_of_person : Table → ℕ → ℕ
room_of_person table person = room_in table.person_rooms person

-- how many more memberships there is room for in the list of a conference
abbrev pub room_of_conference : Table → ℕ → ℕ
room_of_conference table conference = room_in table.conference_rooms conference

-- so many more memberships of a person, in a conference, need no memory
pub record HasRoom (table : Table) (person conference count : ℕ) : Type 0 where
  pub spare : count ≤ table.spare
  pub of_person : count ≤ room_of_person table person
  pub of_conference : count ≤ room_of_conference table conference

-- no room falls
pub record KeepsRoom (old new : Table) : Type 0 where
  pub spare : old.spare ≤ new.spare
  pub persons : (person : ℕ) → room_of_person old person ≤ room_of_person new person
  pub conferences : (conference : ℕ)
      → room_of_conference old conference ≤ room_of_conference new conference

-- room falls by one at most, and only that of the table, of this person and of this conference
pub record UsesRoom (old new : Table) (person conference : ℕ) : Type 0 where
  pub spare : old.spare ≤ new.spare + 1
  pub of_person : room_of_person old person ≤ room_of_person new person + 1
  pub of_conference : room_of_conference old conference ≤ room_of_conference new conference + 1
  pub other_persons : (other : ℕ) → other ≢ person
      → room_of_person old other ≤ room_of_person new other
  pub other_conferences : (other : ℕ) → other ≢ conference
      → room_of_conference old other ≤ room_of_conference new other

-- No person is in a conference twice, and the positions of each person's memberships count up from
-- 0.
pub record IsOrderly (rows : List MembershipRow) : Type 0 where
  pub once : IsDistinct same_key (map (λ row. (row.person, row.conference)) rows)
  pub counted : (person : ℕ) → map (λ row. row.position) (memberships_of person rows)
      ≡ range_with_len 0 (count_of person rows)

-- There is what was read for each membership, in the same order, and it is ranges.
pub record IsReadOf (rows : List MembershipRow) (reads : List ReadRow) : Type 0 where
  pub same : map {B = Key} (λ read. (read.person, read.conference)) reads
      ≡ map (λ row. (row.person, row.conference)) rows
  pub ranges : All (λ read. AreRanges read.ranges) reads
