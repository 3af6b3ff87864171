use Rattle.std.proofs.Common.{◌≡◌, ◌∙◌, ap, min, arith, None}
use Rattle.std.specs.HashMap.{spare}
use Rattle.name_lookup.specs.NamedRows.{without_name}
use Rattle.name_lookup.proofs.Changes.{Updated, IsOrder-removed}
use Rattle.name_lookup.proofs.Rows.{rows_removed}
use Rattle.name_lookup.proofs.index.Index.remove.Goals as goal
use Rattle.name_lookup.proofs.index.Index.remove.Goals.{Joined-swap_remove}

updated : (c : Joined-swap_remove) →
    Updated c.args.number None c.self.inside.kept.entries c.swap_remove.new.self.entries
updated c = c.swap_remove.ensures.updates.0

pub invariant_of-self : goal.invariant_of-self
invariant_of-self c =
    rw c.take_out.ensures.rest
    (IsOrder-removed c.args.number c.self.inside.kept.entries c.swap_remove.new.self.entries (updated c)
    c.self.inside.order.numbers c.self.invariant)

pub returns-clause-names : goal.returns-clause-names
returns-clause-names c =
    rows_removed c.args.number c.self.inside.kept.entries c.swap_remove.new.self.entries (updated c)
    ∙ ap (λ value. without_name c.args.number value.names) c.self.view_is

pub returns-clause-spare : goal.returns-clause-spare
returns-clause-spare c =
    let room : min (spare c.self.inside.kept) c.self.inside.order.spare ≡ c.args.self.now.spare =
    ap (λ value. value.spare) c.self.view_is in
    omega (arith, c.swap_remove.ensures.room.0, c.take_out.ensures.spare)
