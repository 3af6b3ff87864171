use Rattle.std.proofs.Common.{◌≡◌, ◌++◌, drop, map}
use Rattle.kom_types.specs.declared.effects.Effect.TheVariants as effect
use Rattle.conf_calls.proofs.deletion.push_marks.Given as goal

-- with those of the marks to come, the effects are as they will be
abbrev pub invariant-loop-mark : goal.invariant-loop-mark
invariant-loop-mark l =
    l.effects ++ map (λ mark. effect.MarkGone l.person mark.text) (drop l.mark-index l.mark-items)
    ≡ l.fn.effects ++ map (λ mark. effect.MarkGone l.person mark.text) l.mark-items
