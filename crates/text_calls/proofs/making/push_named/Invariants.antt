use Rattle.std.proofs.Common.{◌≡◌, ◌++◌, map, take}
use Rattle.kom_model.specs.calls.NewTexts.{item_effect}
use Rattle.text_calls.proofs.making.push_named.Given as goal

abbrev pub invariant-loop-item : goal.invariant-loop-item
invariant-loop-item l = l.effects ≡ l.fn.effects ++ map (item_effect l.asked l.text) (take l.item-index l.items)
