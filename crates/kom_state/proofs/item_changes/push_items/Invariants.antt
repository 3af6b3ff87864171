use Rattle.std.proofs.Common.{◌≡◌, ◌++◌}
use Rattle.kom_model.specs.calls.AuxItems.{items_added}
use Rattle.kom_state.proofs.item_changes.push_items.Given as goal

-- with those of the items to come, the effects are as they will be
abbrev pub invariant-loop-item : goal.invariant-loop-item
invariant-loop-item l = l.effects ≡ l.initial.effects ++ items_added l.on_text l.object l.yielded
