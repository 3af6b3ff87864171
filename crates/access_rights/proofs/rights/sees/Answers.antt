use Rattle.std.proofs.Common.{not, ap, sym, ◌∙◌}
use Rattle.access_rights.proofs.Heads.{sees_open}
use Rattle.access_rights.proofs.rights.sees.Goals as goal

pub returns-then-not-is_secret_conference : goal.returns-then-not-is_secret_conference
returns-then-not-is_secret_conference g c =
    ap not c.if-not-is_secret_conference.true
    ∙ sym (sees_open _ _ _ c.in-Some.head (sym c.conference.ensures ∙ c.in-Some.is)
    (sym c.if-not-is_secret_conference.ensures))
