use Rattle.std.proofs.Common.{sym, subst}
use Rattle.kom_model.specs.Effects.{IsProtected}
use Rattle.kom_model.specs.Whole.{IsWhole}
use Rattle.kom_model.proofs.Opening.{IsProtected-initial, IsWhole-initial}
use Rattle.kom_core.proofs.server_core.Core.fresh.Goals as goal

pub of-requires-clause-protected : goal.of-requires-clause-protected
of-requires-clause-protected c =
    subst IsProtected (sym c.in_ok-rows.ensures) (IsProtected-initial c.args.password.now c.args.moment)

pub of-requires-clause-whole : goal.of-requires-clause-whole
of-requires-clause-whole c =
    subst IsWhole (sym c.in_ok-rows.ensures) (IsWhole-initial c.args.password.now c.args.moment)
