use Rattle.std.proofs.Common.{◌≡◌, map, subst}
use Rattle.kom_types.specs.declared.memberships.MembershipRow.{MembershipRow}
use Rattle.kom_types.specs.tables.Memberships.{placed_of}
use Rattle.memberships.specs.Entries.{Key}
use Rattle.memberships.specs.Placing.{placed_at}
use Rattle.memberships.specs.Table.{Table}
use Rattle.memberships.proofs.Placing.{rows_placed}
use Rattle.memberships.proofs.table.Memberships.placed_keys.Goals as goal

pub returns : goal.returns
returns c =
    let placed =
    subst (λ (t : Table).
    map (placed_at t.rows) (map {B = Key} (λ (row : MembershipRow). (row.person, row.conference)) t.rows)
    ≡ map placed_of t.rows) c.self.view_is (rows_placed _ _ _ _ c.self.invariant.0) in
    rw (c.deref.ensures.value, c.in_ok-keys.ensures, placed) at c.all_placed.ensures
