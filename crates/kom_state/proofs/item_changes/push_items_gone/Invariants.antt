use Rattle.std.proofs.Common.{◌≡◌, ◌++◌, map, take}
use Rattle.kom_types.specs.declared.effects.Effect.TheVariants as effect
use Rattle.kom_model.specs.Db.{items_of}
use Rattle.kom_state.proofs.item_changes.push_items_gone.Given as goal

abbrev pub invariant-loop-place : goal.invariant-loop-place
invariant-loop-place l =
    l.effects
    ≡ l.fn.effects
    ++ map (λ item. effect.AuxGone l.on_text l.object item.number)
    (take l.place (items_of l.rows.db l.on_text l.object))
