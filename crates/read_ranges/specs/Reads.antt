-- What members have read: the ranges of each membership, in the order of joining. (Protocol A,
-- "Membership".)
use Rattle.std.specs.Prelude.{ℕ, Bool, ◌==◌, ◌&&◌, not, List, [], ◌∷◌, ◌++◌, map, filter, find}
use Rattle.std.specs.Prelude.{Some, None, if◌then◌else◌}
use Rattle.std.specs.List.{list_any}
use Rattle.kom_types.specs.declared.memberships.MembershipRow.{MembershipRow}
use Rattle.kom_types.specs.declared.memberships.ReadRange.{ReadRange}
use Rattle.kom_types.specs.tables.Memberships.{is_membership}

-- what a person has read of a conference: rising ranges of local numbers, none of which touches
-- another
pub record ReadRow : Type 0 where
  pub person : ℕ
  pub conference : ℕ
  pub ranges : List ReadRange

abbrev pub is_read_of : ℕ → ℕ → ReadRow → Bool
is_read_of person conference row = row.person == person && row.conference == conference

-- the ranges that a person has read of a conference: none if it is no member
abbrev pub read_of : ℕ → ℕ → List ReadRow → List ReadRange
read_of person conference rows =
    elim (find (is_read_of person conference) rows) [ None ↦ [] | Some row ↦ row.ranges ]

-- a membership is set: a new one has read nothing, and one that is there what it had
abbrev pub with_reader : ℕ → ℕ → List ReadRow → List ReadRow
with_reader person conference rows =
    if list_any (is_read_of person conference) rows then rows
    else rows ++ record { person = person; conference = conference; ranges = [] } ∷ []

-- a membership is there no more
abbrev pub without_reader : ℕ → ℕ → List ReadRow → List ReadRow
without_reader person conference rows =
    filter (λ row. not (is_read_of person conference row)) rows

-- a person has read these ranges of a conference, and no others
abbrev pub with_read : ℕ → ℕ → List ReadRange → List ReadRow → List ReadRow
with_read person conference ranges rows =
    map (λ row. if is_read_of person conference row then record row { ranges = ranges } else row)
    rows

-- a membership's record of what was read is set now
abbrev pub read_at : ℕ → ℕ → ℕ → List MembershipRow → List MembershipRow
read_at person conference at rows =
    map (λ row. if is_membership person conference row
    then record row { last_time_read = at } else row) rows
