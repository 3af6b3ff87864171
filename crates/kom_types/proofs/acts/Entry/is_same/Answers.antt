use Rattle.std.proofs.Common.{◌≡◌, sym, subst}
use Rattle.std.specs.Bool.{Decides}
use Rattle.kom_types.proofs.Equality.{entry}
use Rattle.kom_types.proofs.acts.Entry.is_same.Goals as goal

pub returns : goal.returns
returns c = subst (λ r. Decides r (c.args.self.now ≡ c.args.other.now)) (sym c.eq.ensures)
    (entry c.args.self.now c.args.other.now).decides
