use Rattle.std.proofs.Common.{◌≡◌, ◌==◌, ◌&&◌, ◌∙◌, sym, ap, true, false, eq-eqb}
use Rattle.std.specs.List.{list_any}
use Rattle.std.proofs.lemmas.Bool.{ne_eqb}
use Rattle.aux_items.proofs.Standings.{has-left_by, has-added_by}
use Rattle.aux_items.proofs.standing.Standing.has_by.Goals as goal

pub returns-then-has_left_by : goal.returns-then-has_left_by
returns-then-has_left_by g c =
    let s = c.self.inside in
    let items = g.R.ItemList.items s.rows.now in
    c.if-has_left_by.true
    ∙ has-left_by items s.deleted.now s.added.now s.person c.args.tag c.args.creator
    (sym c.has_left_by.ensures ∙ c.if-has_left_by.true)
    ∙ ap (list_any (λ item. item.tag == c.args.tag && item.creator == c.args.creator)) c.self.view_is

pub returns-then-self-creator : goal.returns-then-self-creator
returns-then-self-creator g c =
    let s = c.self.inside in
    let items = g.R.ItemList.items s.rows.now in
    c.has_added.ensures
    ∙ has-added_by items s.deleted.now s.added.now s.person c.args.tag c.args.creator
    (sym c.has_left_by.ensures ∙ c.if-has_left_by.false) true (eq-eqb s.person c.args.creator c.if-self-creator.true)
    ∙ ap (list_any (λ item. item.tag == c.args.tag && item.creator == c.args.creator)) c.self.view_is

pub returns-else-self-creator : goal.returns-else-self-creator
returns-else-self-creator g c =
    let s = c.self.inside in
    let items = g.R.ItemList.items s.rows.now in
    let other : (s.person == c.args.creator) ≡ false = ne_eqb s.person c.args.creator c.if-self-creator.false in
    other
    ∙ has-added_by items s.deleted.now s.added.now s.person c.args.tag c.args.creator
    (sym c.has_left_by.ensures ∙ c.if-has_left_by.false) false other
    ∙ ap (list_any (λ item. item.tag == c.args.tag && item.creator == c.args.creator)) c.self.view_is
