use Rattle.std.proofs.Common.{[], ◌∷◌, ◌++◌, ap, ◌∙◌}
use Rattle.kom_state.proofs.NewItems.{items-more}
use Rattle.kom_state.proofs.item_changes.new_items.Goals as goal

pub loop-place-preserved : goal.loop-place-preserved
loop-place-preserved c =
    items-more c.args.creator c.moment-at.result c.args.first c.args.given.now c.loop-place.place
    c.index-given-place.result
    c.loop-place.items c.push.new.self c.loop-place-test.true c.index-given-place.is c.loop-place.invariant
    (c.in_ok-push.ensures.ok ∙ ap (λ one. c.loop-place.items ++ one ∷ []) c.in_ok-item_of.ensures)
