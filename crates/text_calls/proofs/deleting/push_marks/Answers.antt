use Rattle.std.proofs.Common.{◌∙◌, sym, arith}
use Rattle.kom_types.specs.declared.effects.Effect.{Effect}
use Rattle.kom_types.specs.declared.effects.Effect.TheVariants as effect
use Rattle.kom_types.specs.declared.texts.MarkRow.{MarkRow}
use Rattle.kom_model.specs.Db.{marks_on}
use Rattle.kom_state.proofs.Pushing.{pushed, pushed-none, pushed-all, pushed-past}
use Rattle.text_calls.proofs.deleting.push_marks.Goals as goal
use Rattle.text_calls.proofs.deleting.push_marks.Goals.{in-Some+in_ok-push, in_default}

abbrev make : MarkRow → Effect
make = λ row. effect.MarkGone row.person row.text

pub loop-place-init : goal.loop-place-init
loop-place-init c = pushed-none make c.args.effects.now (marks_on c.args.rows.now.db c.args.text)

pub loop-place-preserved : goal.loop-place-preserved
loop-place-preserved c =
    let rows = marks_on c.args.rows.now.db c.args.text in
    elim c.match-nth_mark_on.branch [
      | in-Some+in_ok-push w ↦
          pushed make c.args.effects.now rows c.loop-place.place w.in-Some.row c.loop-place.effects _
          (sym c.nth_mark_on.ensures ∙ w.in-Some.is) c.loop-place.invariant (w.effects-is ∙ w.in_ok-push.ensures.ok)
      | in_default w ↦
          absurd (pushed-past make c.args.effects.now rows c.loop-place.place
          (omega (arith, c.mark_count_on-place-end.ensures, c.loop-place-test.true)) (sym c.nth_mark_on.ensures
          ∙ w.in_default.is))
    ]

pub returns : goal.returns
returns c =
    pushed-all make c.args.effects.now (marks_on c.args.rows.now.db c.args.text) c.loop-place.place c.loop-place.effects
    (omega (arith, c.mark_count_on-place-end.ensures, c.loop-place-test.false)) c.loop-place.invariant
