use Rattle.kom_snapshot.proofs.Keeping.{effect-listed, effects-listed, empty-listed, initial-listed}
use Rattle.kom_snapshot.proofs.laws.effects_leave_listed.Goals as goal

pub returns : goal.returns
returns c =
    record { empty = empty-listed; one = effect-listed; all = effects-listed; initial = initial-listed }
