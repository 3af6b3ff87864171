-- Where the membership of a person and a conference stands.
use Rattle.std.specs.Prelude.{ℕ, List, Some, None}
use Rattle.kom_types.specs.declared.memberships.MembershipRow.{MembershipRow}
use Rattle.kom_types.specs.declared.memberships.Placed.{Placed}
use Rattle.kom_types.specs.tables.Memberships.{membership_of}
use Rattle.memberships.specs.Entries.{Key}

-- its position, and 0 where there is none
abbrev pub position_of : List MembershipRow → Key → ℕ
position_of rows key =
    elim (membership_of key.0 key.1 rows) [ None ↦ 0 | Some row ↦ row.position ]

abbrev pub placed_at : List MembershipRow → Key → Placed
placed_at rows key =
    record { person = key.0; conference = key.1; position = position_of rows key }
