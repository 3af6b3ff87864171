use Rattle.std.proofs.Common.{length, sym, ap, ◌∙◌}
use Rattle.memberships.proofs.Finding.{conference_count}
use Rattle.memberships.proofs.table.Memberships.count_of_conference.Goals as goal

pub returns : goal.returns
returns c =
    rw (← c.self.view_is)
    (ap length c.list.ensures ∙ sym (conference_count _ _ _ _ c.self.invariant.0 c.args.conference))
