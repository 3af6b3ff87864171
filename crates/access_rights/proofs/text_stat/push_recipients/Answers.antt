use Rattle.std.proofs.Common.{sym, ◌∙◌, arith}
use Rattle.kom_model.specs.Db.{recipients_of}
use Rattle.kom_model.specs.Shown.{shows_recipient, recipient_infos}
use Rattle.access_rights.proofs.Pushing.{absent_past, if_kept, pushed, pushed_kept}
use Rattle.access_rights.proofs.text_stat.push_recipients.Goals as goal
use Rattle.access_rights.proofs.text_stat.push_recipients.Goals.{in-Some+in_ok-push_shown, in_default}

pub loop-place-preserved : goal.loop-place-preserved
loop-place-preserved g c =
    let db = g.R.Rows.db c.args.rows.now in
    let text = c.args.text.now in
    let rows = recipients_of db text.number in
    elim c.match-recipient.branch [
      | in-Some+in_ok-push_shown w ↦
          pushed (if_kept (shows_recipient db c.args.viewer.now text.author) recipient_infos) c.args.infos.now rows
          c.loop-place.place w.in-Some.row c.loop-place.infos _ (sym w.in-Some.ensures) c.loop-place.invariant
          (w.infos-is ∙ w.in_ok-push_shown.ensures)
      | in_default w ↦ absurd
          (omega (arith, absent_past rows c.loop-place.place (sym c.recipient.ensures ∙ w.in_default.is)))
    ]

pub returns : goal.returns
returns g c =
    let db = g.R.Rows.db c.args.rows.now in
    let text = c.args.text.now in
    pushed_kept (shows_recipient db c.args.viewer.now text.author) recipient_infos c.args.infos.now
    (recipients_of db text.number) c.loop-place.place c.loop-place.infos (omega arith) c.loop-place.invariant
