-- Which memberships may be hidden from somebody: the secret ones, and those in secret conferences.
use Rattle.std.specs.Prelude.{◌≡◌, ℕ, Bool, false, ◌&&◌, List, map, filter, is_some, None, Some}
use Rattle.std.specs.List.{count_by}
use Rattle.kom_types.specs.tables.Conferences.{number_of_conference, is_secret_conference}
use Rattle.kom_model.specs.Db.{Db, conference_of, membership_of, memberships_of}

-- a conference is there, and is secret
abbrev pub is_secret_in : Db → ℕ → Bool
is_secret_in db conference =
    elim (conference_of db conference) [ None ↦ false | Some row ↦ is_secret_conference row.kind ]

-- the numbers of the secret conferences
abbrev pub secret_numbers : Db → List ℕ
secret_numbers db =
    map number_of_conference (filter (λ row. is_secret_conference row.kind) db.conferences)

-- A person's memberships in secret conferences are found by these conferences: as many of those
-- that have the person pass a test as of those memberships.
abbrev pub AreFoundBySecret : Db → ℕ → Type 0
AreFoundBySecret db person = (test : ℕ → Bool)
    → count_by (λ conference. is_some (membership_of db person conference) && test conference)
    (secret_numbers db)
    ≡ count_by (λ row. is_secret_in db row.conference && test row.conference)
    (memberships_of db person)
