use Rattle.std.proofs.Common.{◌≡◌, ◌++◌, map, take}
use Rattle.kom_types.specs.declared.effects.Effect.TheVariants as effect
use Rattle.text_calls.proofs.deleting.push_links.Given as goal

abbrev pub invariant-loop-link : goal.invariant-loop-link
invariant-loop-link l =
    l.effects
    ≡ l.fn.effects ++ map (λ link. effect.LinkGone link.child link.parent link.footnote)
    (take l.link-index l.link-items)
