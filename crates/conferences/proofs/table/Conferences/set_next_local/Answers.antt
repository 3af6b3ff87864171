use Rattle.std.proofs.Common.{refl}
use Rattle.conferences.specs.Numbers.{with_next_local}
use Rattle.conferences.proofs.Listing.{IsListed-changed_row}
use Rattle.conferences.proofs.table.Conferences.set_next_local.Goals as goal

pub invariant_of-self : goal.invariant_of-self
invariant_of-self c =
    IsListed-changed_row (with_next_local _) (λ _. refl) (λ _. refl) _ c.self.inside.rows.rows c.change.new.self.rows
    c.self.inside.secret c.self.invariant c.change.ensures.rows
