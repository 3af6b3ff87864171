use Rattle.std.proofs.Common.{◌≡◌, false, take}
use Rattle.std.specs.List.{list_any}
use Rattle.kom_model.specs.Db.{recipients_of}
use Rattle.kom_model.specs.Messages.{takes}
use Rattle.access_rights.proofs.messages.takes_text.Given as goal

-- no recipient before the place is one whose texts are taken
abbrev pub invariant-loop-place : goal.invariant-loop-place
invariant-loop-place g l =
    list_any (λ row. takes (g.R.Rows.db l.rows) l.person row.conference)
    (take l.place (recipients_of (g.R.Rows.db l.rows) l.text)) ≡ false
