use Rattle.std.proofs.Common.{sym, ◌∙◌, arith}
use Rattle.access_rights.proofs.Pushing.{absent_past}
use Rattle.access_rights.proofs.Recipients.{any_at, none_more}
use Rattle.access_rights.proofs.texts.reads_by_recipient.Goals as goal
use Rattle.access_rights.proofs.texts.reads_by_recipient.Goals.{in-Some+else-reads_conference, in_default}

pub returns-then-reads_conference : goal.returns-then-reads_conference
returns-then-reads_conference g c =
    sym (any_at _ _ c.loop-place.place c.in-Some.row (sym c.in-Some.ensures) (sym c.if-reads_conference.ensures))

pub loop-place-preserved : goal.loop-place-preserved
loop-place-preserved g c = elim c.match-recipient.branch [
  | in-Some+else-reads_conference w ↦
      none_more _ _ c.loop-place.place w.in-Some.row c.loop-place.invariant (sym w.in-Some.ensures)
      (sym w.if-reads_conference.ensures)
  | in_default w ↦ absurd
      (omega (arith, absent_past _ c.loop-place.place (sym c.recipient.ensures ∙ w.in_default.is)))
]
