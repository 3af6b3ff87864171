use Rattle.std.proofs.Common.{◌∙◌, sym, ap, arith, option_copied}
use Rattle.kom_types.specs.declared.effects.Effect.{Effect}
use Rattle.kom_types.specs.declared.effects.Effect.TheVariants as effect
use Rattle.kom_types.specs.declared.texts.Recipient.{Recipient}
use Rattle.kom_model.specs.Db.{recipients_of}
use Rattle.kom_state.proofs.Pushing.{pushed, pushed-none, pushed-all, pushed-past}
use Rattle.text_calls.proofs.deleting.push_recipients.Goals as goal
use Rattle.text_calls.proofs.deleting.push_recipients.Goals.{in-Some+in_ok-push, in_default}

abbrev make : Recipient → Effect
make = λ row. effect.RecipientGone row.text row.conference

pub loop-place-init : goal.loop-place-init
loop-place-init c = pushed-none make c.args.effects.now (recipients_of c.args.rows.now.db c.args.text)

pub loop-place-preserved : goal.loop-place-preserved
loop-place-preserved c =
    let rows = recipients_of c.args.rows.now.db c.args.text in
    elim c.match-nth_recipient.branch [
      | in-Some+in_ok-push w ↦
          pushed make c.args.effects.now rows c.loop-place.place w.in-Some.row.now c.loop-place.effects _
          (sym c.nth_recipient.ensures ∙ ap option_copied w.in-Some.is) c.loop-place.invariant (w.effects-is
          ∙ w.in_ok-push.ensures.ok)
      | in_default w ↦
          absurd (pushed-past make c.args.effects.now rows c.loop-place.place
          (omega (arith, c.recipient_count-place-end.ensures, c.loop-place-test.true)) (sym c.nth_recipient.ensures
          ∙ ap option_copied w.in_default.is))
    ]

pub returns : goal.returns
returns c =
    pushed-all make c.args.effects.now (recipients_of c.args.rows.now.db c.args.text) c.loop-place.place
    c.loop-place.effects
    (omega (arith, c.recipient_count-place-end.ensures, c.loop-place-test.false)) c.loop-place.invariant
