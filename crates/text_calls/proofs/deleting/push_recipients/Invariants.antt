use Rattle.std.proofs.Common.{◌≡◌, ◌++◌, map, take}
use Rattle.kom_types.specs.declared.effects.Effect.TheVariants as effect
use Rattle.kom_model.specs.Db.{recipients_of}
use Rattle.text_calls.proofs.deleting.push_recipients.Given as goal

abbrev pub invariant-loop-place : goal.invariant-loop-place
invariant-loop-place l = l.effects ≡ l.fn.effects ++ map (λ row. effect.RecipientGone row.text row.conference)
    (take l.place (recipients_of l.rows.db l.text))
