use Rattle.std.proofs.Common.{ℕ, List, ◌&&◌, ap, ◌∙◌}
use Rattle.std.specs.List.{count_by}
use Rattle.kom_types.specs.tables.Memberships.{is_secret_membership, memberships_of}
use Rattle.memberships.specs.Table.{Table}
use Rattle.memberships.proofs.Secrets.{secret_of_person}
use Rattle.memberships.proofs.table.Memberships.secret_of_person.Goals as goal

pub returns : goal.returns
returns c =
    λ test.
    ap (λ (list : List ℕ). count_by test list) c.list.ensures
    ∙ secret_of_person _ _ _ c.self.invariant.1 c.args.person test
    ∙ ap (λ (t : Table). count_by (λ row. is_secret_membership row.kind && test row.conference)
    (memberships_of c.args.person t.rows)) c.self.view_is
