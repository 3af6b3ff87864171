use Rattle.std.proofs.Common.{ℕ, List, ◌&&◌, nat_eq, map, subst, ap, ◌∙◌}
use Rattle.std.specs.List.{count_by, IsDistinct}
use Rattle.kom_types.specs.tables.Memberships.{is_secret_membership, members_of}
use Rattle.memberships.specs.Table.{Table}
use Rattle.memberships.proofs.Secrets.{secret_in_conference, distinct_members}
use Rattle.memberships.proofs.Viewing.{orderly}
use Rattle.memberships.proofs.table.Memberships.secret_in_conference.Goals as goal

pub returns-clause-counted : goal.returns-clause-counted
returns-clause-counted c =
    λ test.
    ap (λ (list : List ℕ). count_by test list) c.list.ensures
    ∙ secret_in_conference _ _ _ c.self.invariant.1 c.args.conference test
    ∙ ap (λ (t : Table). count_by (λ row. is_secret_membership row.kind && test row.person)
    (members_of c.args.conference t.rows)) c.self.view_is

pub returns-clause-once : goal.returns-clause-once
returns-clause-once c =
    subst (λ (t : Table). IsDistinct nat_eq (map (λ row. row.person) (members_of c.args.conference t.rows)))
    c.self.view_is
    (distinct_members c.args.conference _ (orderly _ _ _ _ c.self.invariant.0).once)
