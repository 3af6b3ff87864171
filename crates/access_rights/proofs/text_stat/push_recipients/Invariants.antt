use Rattle.std.proofs.Common.{◌≡◌}
use Rattle.kom_model.specs.Db.{recipients_of}
use Rattle.kom_model.specs.Shown.{shows_recipient, recipient_infos}
use Rattle.access_rights.proofs.Pushing.{pushed_to, if_kept}
use Rattle.access_rights.proofs.text_stat.push_recipients.Given as goal

abbrev pub invariant-loop-place : goal.invariant-loop-place
invariant-loop-place g l =
    l.infos
    ≡ pushed_to (if_kept (shows_recipient (g.R.Rows.db l.rows) l.viewer l.text.author) recipient_infos) l.fn.infos
    (recipients_of (g.R.Rows.db l.rows) l.text.number) l.place
