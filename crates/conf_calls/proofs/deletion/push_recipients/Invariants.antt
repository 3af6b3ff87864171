use Rattle.std.proofs.Common.{◌≡◌, ◌++◌, map}
use Rattle.kom_types.specs.declared.effects.Effect.TheVariants as effect
use Rattle.kom_model.specs.Db.{locals_of}
use Rattle.conf_calls.proofs.deletion.push_recipients.Given as goal

-- with those of the texts to come, the effects are as they will be
abbrev pub invariant-loop-pair : goal.invariant-loop-pair
invariant-loop-pair l =
    l.effects ++ map (λ pair. effect.RecipientGone pair.text l.conference) l.pair-iterator
    ≡ l.fn.effects ++ map (λ pair. effect.RecipientGone pair.text l.conference) (locals_of l.rows.db l.conference)
