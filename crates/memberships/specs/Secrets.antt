-- The secret memberships of each person and in each conference, listed.
use Rattle.std.specs.Prelude.{◌≡◌, ℕ, Bool, ◌==◌, ◌&&◌, min, List, map, if◌then◌else◌}
use Rattle.std.specs.List.{count_by}
use Rattle.kom_types.specs.declared.memberships.MembershipRow.{MembershipRow}
use Rattle.kom_types.specs.tables.Memberships.{is_secret_membership}
use Rattle.row_slots.specs.declared.lists.Lists.{Lists}
use Rattle.row_slots.specs.Lists.{room_of, rooms_of}

-- whether a membership is a secret one of a person, in a conference that passes a test
abbrev pub is_secret_of : ℕ → (ℕ → Bool) → MembershipRow → Bool
is_secret_of person test row =
    row.person == person && (is_secret_membership row.kind && test row.conference)

-- whether a membership is a secret one in a conference, of a person that passes a test
abbrev pub is_secret_in : ℕ → (ℕ → Bool) → MembershipRow → Bool
is_secret_in conference test row =
    row.conference == conference && (is_secret_membership row.kind && test row.person)

-- A list of each person has the conferences of its secret memberships, and a list of each
-- conference the persons of those in it: each once, in any order. So as many of a list pass a test
-- as there are such memberships that do.
pub record AreSecrets (rows : List MembershipRow)
    (of_persons in_conferences : ℕ → List ℕ) : Type 0 where
  pub persons : (person : ℕ) (test : ℕ → Bool)
      → count_by test (of_persons person) ≡ count_by (is_secret_of person test) rows
  pub conferences : (conference : ℕ) (test : ℕ → Bool)
      → count_by test (in_conferences conference) ≡ count_by (is_secret_in conference test) rows

-- one where this is so, and else none
abbrev pub one_if : Bool → ℕ
one_if so = if so then 1 else 0

-- The keys that a list is kept for, each with how many more numbers fit without memory both into
-- its list and into the one that lists the secret ones.
abbrev pub rooms_of_both : Lists → Lists → List (ℕ × ℕ)
rooms_of_both lists secret =
    map (λ room. (room.0, min room.1 (room_of secret room.0))) (rooms_of lists)
