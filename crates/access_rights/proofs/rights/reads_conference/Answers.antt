use Rattle.std.proofs.Common.{not, ap, sym, ◌∙◌}
use Rattle.access_rights.proofs.Heads.{reads_open}
use Rattle.access_rights.proofs.rights.reads_conference.Goals as goal

pub returns-then-not-is_read_protected : goal.returns-then-not-is_read_protected
returns-then-not-is_read_protected g c =
    ap not c.if-not-is_read_protected.true
    ∙ sym (reads_open _ _ _ c.in-Some.head (sym c.conference.ensures ∙ c.in-Some.is)
    (sym c.if-not-is_read_protected.ensures))
