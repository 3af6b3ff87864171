use Rattle.std.proofs.Common.{refl}
use Rattle.kom_types.specs.tables.Conferences.{with_name}
use Rattle.conferences.proofs.Listing.{IsListed-changed_row}
use Rattle.conferences.proofs.table.Conferences.rename.Goals as goal

pub invariant_of-self : goal.invariant_of-self
invariant_of-self c =
    IsListed-changed_row (with_name _) (λ _. refl) (λ _. refl) _ c.self.inside.rows.rows c.change.new.self.rows
    c.self.inside.secret c.self.invariant c.change.ensures.rows
