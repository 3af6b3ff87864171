-- Which memberships are hidden from who looks, and how many of the first are.
use Rattle.std.specs.Prelude.{ℕ, Bool, false, not, nat_lt, ◌&&◌, ◌||◌, take, None, Some}
use Rattle.std.specs.List.{count_by}
use Rattle.kom_types.specs.declared.memberships.MembershipRow.{MembershipRow}
use Rattle.kom_types.specs.tables.Memberships.{is_secret_membership}
use Rattle.kom_model.specs.declared.viewers.Viewer.{Viewer}
use Rattle.kom_model.specs.Db.{Db, membership_of, memberships_of, members_of}
use Rattle.kom_model.specs.Rights.{sees}
use Rattle.kom_model.specs.Shown.{shows_membership}
use Rattle.kom_state.specs.Secrecy.{secret_numbers}

abbrev pub is_hidden : Db → Viewer → MembershipRow → Bool
is_hidden db viewer row = not (shows_membership db viewer row.person row.conference row.kind)

-- how many of the first members of a conference, in the order of joining
abbrev pub hidden_members : Db → Viewer → ℕ → ℕ → ℕ
hidden_members db viewer conference first =
    count_by (λ row. not (shows_membership db viewer row.person conference row.kind))
    (take first (members_of db conference))

-- how many of the first memberships of a person, by their places
abbrev pub hidden_memberships : Db → Viewer → ℕ → ℕ → ℕ
hidden_memberships db viewer person first =
    count_by (is_hidden db viewer) (take first (memberships_of db person))

-- a person's membership in a conference is among its first
abbrev pub is_before : Db → ℕ → ℕ → ℕ → Bool
is_before db person first conference = elim (membership_of db person conference) [
  | None ↦ false
  | Some row ↦ nat_lt row.position first
]

-- a person is in a conference, and its membership is not secret
abbrev pub is_plain_member : Db → ℕ → ℕ → Bool
is_plain_member db person conference = elim (membership_of db person conference) [
  | None ↦ false
  | Some row ↦ not (is_secret_membership row.kind)
]

-- a person is in a conference that who looks does not see, and its membership is not secret
abbrev pub is_unseen : Db → Viewer → ℕ → ℕ → Bool
is_unseen db viewer person conference =
    is_plain_member db person conference && not (sees db viewer conference)

-- how many such conferences there are
abbrev pub unseen_count : Db → Viewer → ℕ → ℕ
unseen_count db viewer person = count_by (is_unseen db viewer person) (secret_numbers db)

-- More than so many of a person's memberships are secret, or more others are in conferences that
-- who looks does not see.
abbrev pub needs_more_searches : Db → Viewer → ℕ → ℕ → Bool
needs_more_searches db viewer person searches =
    nat_lt searches (count_by (λ row. is_secret_membership row.kind) (memberships_of db person))
    || nat_lt searches (unseen_count db viewer person)
