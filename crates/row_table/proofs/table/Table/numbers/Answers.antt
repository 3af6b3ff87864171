use Rattle.std.proofs.Common.{◌≡◌, eqb, map, ap, ◌∙◌}
use Rattle.std.proofs.lemmas.Iterator.{items_from_collect}
use Rattle.std.proofs.lemmas.Iterator.Consumers.{YieldsList-at, YieldsList-from_copied, YieldsList-from_rest}
use Rattle.std.proofs.lemmas.List.Filters.{dedup_is}
use Rattle.std.proofs.lemmas.Result.{IfOk-at_ok}
use Rattle.indexmap.specs.IndexMap.{keys}
use Rattle.row_table.proofs.Numbers.{numbers-sorted}
use Rattle.row_table.proofs.table.Table.numbers.Goals as goal

pub returns : goal.returns
returns g c =
    let number_of = g.K.Keyed.number_of in
    let table = c.self.inside.rows in
    let given : c.in_ok-numbers.numbers.items ≡ keys table =
    IfOk-at_ok _ c.in_ok-numbers.was (items_from_collect c.collect.result c.collect.ensures.ran
    (YieldsList-from_copied (YieldsList-at c.copied.ensures.source (YieldsList-from_rest _ c.keys.ensures.rest)))) in
    dedup_is eqb _ _ c.dedup.ensures.filtered
    ∙ numbers-sorted number_of table c.self.invariant _ _ given
    c.sort_unstable.ensures.permutation c.sort_unstable.ensures.sorted
    ∙ ap (λ t. map number_of t.rows) c.self.view_is
