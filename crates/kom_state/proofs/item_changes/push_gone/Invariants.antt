use Rattle.std.proofs.Common.{◌≡◌, ◌++◌, map, take}
use Rattle.kom_types.specs.declared.effects.Effect.TheVariants as effect
use Rattle.kom_state.proofs.item_changes.push_gone.Given as goal

abbrev pub invariant-loop-number : goal.invariant-loop-number
invariant-loop-number l =
    l.effects ≡ l.fn.effects ++ map (λ number. effect.AuxGone l.on_text l.object number) (take l.number-index l.numbers)
