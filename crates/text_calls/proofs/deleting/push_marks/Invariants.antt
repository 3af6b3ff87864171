use Rattle.std.proofs.Common.{◌≡◌, ◌++◌, map, take}
use Rattle.kom_types.specs.declared.effects.Effect.TheVariants as effect
use Rattle.kom_model.specs.Db.{marks_on}
use Rattle.text_calls.proofs.deleting.push_marks.Given as goal

abbrev pub invariant-loop-place : goal.invariant-loop-place
invariant-loop-place l = l.effects ≡ l.fn.effects ++ map (λ row. effect.MarkGone row.person row.text)
    (take l.place (marks_on l.rows.db l.text))
