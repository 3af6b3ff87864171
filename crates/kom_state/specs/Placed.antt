-- What is known of the memberships of a person.
use Rattle.std.specs.Prelude.{◌≡◌, ℕ, length, map, IsTrue, is_some, Some}
use Rattle.std.specs.List.{AllByRecursion, range_with_len}
use Rattle.kom_model.specs.Db.{Db, conference_of, membership_of, memberships_of}

-- the conference of each is there
abbrev pub AreThere : Db → ℕ → Type 0
AreThere db person = AllByRecursion
    (λ row. IsTrue (is_some (conference_of db row.conference))) (memberships_of db person)

-- the position of each is its place among them
abbrev pub AreInPlace : Db → ℕ → Type 0
AreInPlace db person = map (λ row. row.position) (memberships_of db person)
    ≡ range_with_len 0 (length (memberships_of db person))

-- each is the one of the person in its conference
abbrev pub AreFound : Db → ℕ → Type 0
AreFound db person = AllByRecursion
    (λ row. membership_of db person row.conference ≡ Some row) (memberships_of db person)
