use Rattle.std.proofs.Common.{◌≡◌, eqb, filter_map, ap, ◌∙◌}
use Rattle.std.proofs.lemmas.List.Filters.{dedup_is}
use Rattle.row_slots.specs.Slots.{places_of}
use Rattle.misc_links.specs.Keeping.{link_at}
use Rattle.misc_links.specs.Kinds.{list_at}
use Rattle.misc_links.specs.Linked.{Linked, touches, links_of_text}
use Rattle.misc_links.proofs.Rising.{sorted_once}
use Rattle.misc_links.proofs.Touching.{rises-places_of, has_all, links_touching}
use Rattle.misc_links.proofs.links.Links.of_text.Goals as goal

pub returns : goal.returns
returns c =
    let slots = c.self.inside.rows.slots in
    let text = c.args.text in
    let from = list_at c.self.inside.from in
    let into = list_at c.self.inside.into in
    let places : c.deref.result.now ≡ places_of (touches text) slots =
    c.deref.ensures.value ∙ dedup_is eqb _ _ c.dedup.ensures.filtered
    ∙ sorted_once (places_of (touches text) slots) _ _ (rises-places_of (touches text) slots)
    (λ k. rw c.in_ok-places.ensures (has_all slots from into c.self.invariant text k))
    c.sort_unstable.ensures.permutation c.sort_unstable.ensures.sorted in
    let rows = ap (filter_map (link_at slots)) places ∙ links_touching text slots
    ∙ ap (λ (t : Linked). links_of_text text t.links) c.self.view_is in
    rw rows at c.links_at.ensures
