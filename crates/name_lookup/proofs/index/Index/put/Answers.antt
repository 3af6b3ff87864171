use Rattle.std.proofs.Common.{◌≡◌, ◌∙◌, ap, ◌≤◌, arith, Some, None, insert, length}
use Rattle.std.proofs.lemmas.Result.{IfOk-at_ok}
use Rattle.name_lookup.specs.declared.order.By.TheVariants.{Name}
use Rattle.name_lookup.specs.NamedRows.{with_name, clash_of, without_name}
use Rattle.name_lookup.specs.Order.{rows_of}
use Rattle.name_lookup.proofs.Changes.{others, Updated, IsByName-filtered, IsOrder-put}
use Rattle.name_lookup.proofs.Orders.{below_first}
use Rattle.name_lookup.proofs.Rows.{rows_put}
use Rattle.name_lookup.proofs.index.Index.put.Goals as goal
use Rattle.name_lookup.proofs.index.Index.put.Goals.{Joined-unwrap}

pub first_at-place-requires : goal.first_at-place-requires
first_at-place-requires c =
    let order = c.self.inside.order.numbers in
    rw c.take_out.ensures.rest
    (below_first c.self.inside.kept.entries Name c.as_slice.result.now (others c.args.number order)
    (IsByName-filtered c.args.number c.self.inside.kept.entries order c.self.invariant.by_name))

updated : (c : Joined-unwrap) →
    Updated c.args.number (Some c.args.name) c.self.inside.kept.entries c.insert-2.new.self.entries
updated c = (IfOk-at_ok _ c.unwrap.ensures c.insert-2.ensures.updates).0

pub invariant_of-self : goal.invariant_of-self
invariant_of-self c =
    let number = c.args.number in
    let name = c.args.name in
    let old = c.self.inside.kept.entries in
    let order = c.self.inside.order.numbers in
    let put : c.insert.new.self.numbers ≡ insert (others number order) c.first_at-place.result number =
    rw c.take_out.ensures.rest at c.insert.ensures in
    let free : clash_of name (without_name number (rows_of old)) ≡ None =
    ap (λ value. clash_of name (without_name number value.names)) c.self.view_is ∙ c.requires.free in
    let point = rw (c.as_slice.ensures, c.take_out.ensures.rest) at c.first_at-place.ensures.first in
    let within : c.first_at-place.result ≤ length (others number order) =
    omega (arith, c.first_at-place.ensures.bound, ap length c.take_out.ensures.rest) in
    rw put (IsOrder-put number name old c.insert-2.new.self.entries (updated c) order c.first_at-place.result within
    c.self.invariant free point)

pub returns : goal.returns
returns c =
    rows_put c.args.number c.args.name c.self.inside.kept.entries c.insert-2.new.self.entries (updated c)
    ∙ ap (λ value. with_name c.args.number c.args.name value.names) c.self.view_is
