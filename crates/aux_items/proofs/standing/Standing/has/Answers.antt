use Rattle.std.proofs.Common.{◌==◌, ◌∙◌, sym, ap}
use Rattle.std.specs.List.{list_any}
use Rattle.aux_items.proofs.Standings.{has-left, has-added}
use Rattle.aux_items.proofs.standing.Standing.has.Goals as goal

pub returns-then-has_left : goal.returns-then-has_left
returns-then-has_left g c =
    let s = c.self.inside in
    let items = g.R.ItemList.items s.rows.now in
    c.if-has_left.true
    ∙ has-left items s.deleted.now s.added.now s.person c.args.tag (sym c.has_left.ensures ∙ c.if-has_left.true)
    ∙ ap (list_any (λ item. item.tag == c.args.tag)) c.self.view_is

pub returns-else-has_left : goal.returns-else-has_left
returns-else-has_left g c =
    let s = c.self.inside in
    let items = g.R.ItemList.items s.rows.now in
    c.has_added.ensures
    ∙ has-added items s.deleted.now s.added.now s.person c.args.tag (sym c.has_left.ensures ∙ c.if-has_left.false)
    ∙ ap (list_any (λ item. item.tag == c.args.tag)) c.self.view_is
