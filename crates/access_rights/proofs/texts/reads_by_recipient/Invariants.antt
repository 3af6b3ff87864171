use Rattle.std.proofs.Common.{◌≡◌, false, take}
use Rattle.std.specs.List.{list_any}
use Rattle.kom_model.specs.Db.{recipients_of}
use Rattle.kom_model.specs.Rights.{reads_conference}
use Rattle.access_rights.proofs.texts.reads_by_recipient.Given as goal

-- no recipient before the place is one that is read
abbrev pub invariant-loop-place : goal.invariant-loop-place
invariant-loop-place g l =
    list_any (λ row. reads_conference (g.R.Rows.db l.rows) l.viewer row.conference)
    (take l.place (recipients_of (g.R.Rows.db l.rows) l.text)) ≡ false
