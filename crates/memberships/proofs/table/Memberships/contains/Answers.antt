use Rattle.std.proofs.Common.{is_some, sym, ap, ◌∙◌}
use Rattle.kom_types.specs.tables.Memberships.{membership_of}
use Rattle.memberships.specs.Table.{Table}
use Rattle.memberships.proofs.Finding.{is_there}
use Rattle.memberships.proofs.table.Memberships.contains.Goals as goal

pub returns : goal.returns
returns c =
    c.contains_key.ensures ∙ sym (is_there _ _ _ _ c.self.invariant.0 c.args.person c.args.conference)
    ∙ ap (λ (t : Table). is_some (membership_of c.args.person c.args.conference t.rows)) c.self.view_is
