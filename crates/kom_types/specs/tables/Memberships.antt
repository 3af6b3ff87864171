-- Memberships: rows in the order in which their persons joined, each with its place among all
-- memberships of its person. (Protocol A, "Memberships".)
use Rattle.std.specs.Prelude.{ℕ, ◌+◌, ◌-◌, Bool, ◌==◌, ◌&&◌, not, nat_le, nat_lt, min}
use Rattle.std.specs.Prelude.{List, [], ◌∷◌, ◌++◌, length, map, filter, find, fold}
use Rattle.std.specs.Prelude.{Option, Some, None, if◌then◌else◌}
use Rattle.kom_types.specs.Bits.{is_on}
use Rattle.kom_types.specs.declared.memberships.Member.{Member}
use Rattle.kom_types.specs.declared.memberships.MembershipRow.{MembershipRow}
use Rattle.kom_types.specs.declared.memberships.Placed.{Placed}

-- the bit of a membership's type that says that the person was invited and has not joined yet
abbrev pub is_invitation : ℕ → Bool
is_invitation kind = is_on 128 kind

-- the bits that say that the person takes no messages of new texts, and that the membership is
-- shown to few
abbrev pub is_passive : ℕ → Bool
is_passive kind = is_on 64 kind

abbrev pub is_secret_membership : ℕ → Bool
is_secret_membership kind = is_on 32 kind

-- what is told of a member
abbrev pub member_of : MembershipRow → Member
member_of row = record {
  person = row.person;
  added_by = row.added_by;
  added_at = row.added_at;
  kind = row.kind;
}

-- where a membership stands
abbrev pub placed_of : MembershipRow → Placed
placed_of row = record {
  person = row.person;
  conference = row.conference;
  position = row.position;
}

-- whether this is the membership of a person in a conference
abbrev pub is_membership : ℕ → ℕ → MembershipRow → Bool
is_membership person conference row = row.person == person && row.conference == conference

-- the membership of a person in a conference
abbrev pub membership_of : ℕ → ℕ → List MembershipRow → Option MembershipRow
membership_of person conference rows = find (is_membership person conference) rows

-- the memberships in a conference, in the order of joining
abbrev pub members_of : ℕ → List MembershipRow → List MembershipRow
members_of conference rows = filter (λ row. row.conference == conference) rows

-- a row among others by its place
abbrev pub by_position : MembershipRow → List MembershipRow → List MembershipRow
by_position row [] = row ∷ []
by_position row (first ∷ rows) =
    if nat_lt row.position first.position then row ∷ first ∷ rows else first ∷ by_position row rows

-- the memberships of a person, by their places
abbrev pub memberships_of : ℕ → List MembershipRow → List MembershipRow
memberships_of person rows =
    fold (λ sorted row. by_position row sorted) [] (filter (λ row. row.person == person) rows)

-- how many memberships a person has
abbrev pub count_of : ℕ → List MembershipRow → ℕ
count_of person rows = length (filter (λ row. row.person == person) rows)

-- with another place
abbrev pub at_place : ℕ → MembershipRow → MembershipRow
at_place place row = record row { position = place }

-- the person's memberships after a place close up
abbrev pub closed_up : ℕ → ℕ → List MembershipRow → List MembershipRow
closed_up person place rows =
    map (λ row. if row.person == person && nat_lt place row.position
    then at_place (row.position - 1) row else row) rows

-- the person's memberships from a place on make room
abbrev pub with_gap : ℕ → ℕ → List MembershipRow → List MembershipRow
with_gap person place rows =
    map (λ row. if row.person == person && nat_le place row.position
    then at_place (row.position + 1) row else row) rows

-- a membership is there no more
abbrev pub without_membership : ℕ → ℕ → List MembershipRow → List MembershipRow
without_membership person conference rows = elim (membership_of person conference rows) [
  | None ↦ rows
  | Some row ↦ closed_up person row.position
      (filter (λ row. not (is_membership person conference row)) rows)
]

-- a row in place of the one of its person and conference
abbrev pub replaced_by : MembershipRow → List MembershipRow → List MembershipRow
replaced_by given rows =
    map (λ row. if is_membership given.person given.conference row then given else row) rows

-- A new membership comes last; its place is the one that it gives, or the end where that is beyond
-- it.
abbrev pub with_new : MembershipRow → List MembershipRow → List MembershipRow
with_new given rows = let place = min given.position (count_of given.person rows) in
    with_gap given.person place rows ++ at_place place given ∷ []

-- A membership that is set again is first taken out of its place; it keeps its turn in the order of
-- joining, and when its record of what was read was set.
abbrev pub set_again : MembershipRow → MembershipRow → List MembershipRow → List MembershipRow
set_again given old rows = let place = min given.position (count_of given.person rows - 1) in
    replaced_by (at_place place (record given { last_time_read = old.last_time_read }))
    (with_gap given.person place (closed_up given.person old.position rows))

-- A membership is set.
abbrev pub with_membership : MembershipRow → List MembershipRow → List MembershipRow
with_membership given rows = elim (membership_of given.person given.conference rows) [
  | None ↦ with_new given rows
  | Some old ↦ set_again given old rows
]
