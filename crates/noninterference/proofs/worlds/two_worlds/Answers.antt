use Rattle.noninterference.proofs.Along.{alike-hide}
use Rattle.noninterference.proofs.worlds.two_worlds.Goals as goal

pub returns-clause-same : goal.returns-clause-same
returns-clause-same c =
    λ is. alike-hide c.args.group.now c.args.ones.now c.args.others.now (c.are_alike.ensures.0 is)
