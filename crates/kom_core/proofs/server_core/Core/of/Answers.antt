use Rattle.kom_model.proofs.Opening.{IsSound-opening}
use Rattle.kom_core.proofs.server_core.Core.of.Goals as goal

pub invariant_of-result : goal.invariant_of-result
invariant_of-result c = rw c.opening.ensures (IsSound-opening c.args.rows.db c.requires.protected c.requires.whole)

pub returns-clause-sound : goal.returns-clause-sound
returns-clause-sound c = rw c.opening.ensures (IsSound-opening c.args.rows.db c.requires.protected c.requires.whole)
