use Rattle.std.proofs.Common.{◌≡◌, ◌++◌, drop, map}
use Rattle.kom_types.specs.declared.effects.Effect.TheVariants as effect
use Rattle.conf_calls.proofs.deletion.push_memberships.Given as goal

-- with those of the memberships to come, the effects are as they will be
abbrev pub invariant-loop-person : goal.invariant-loop-person
invariant-loop-person l =
    l.effects ++ map (λ key. effect.MemberGone key.0 key.1) (drop l.person-index l.person-items)
    ≡ l.fn.effects ++ map (λ key. effect.MemberGone key.0 key.1) l.person-items
