use Rattle.std.proofs.Common.{◌+◌, ◌≤◌, ap, subst}
use Rattle.kom_model.specs.State.{State}
use Rattle.kom_core.specs.Acts.{CoreComes}
use Rattle.kom_core.specs.Worlds.{IsConsistent, RespectsGroups}
use Rattle.kom_core.proofs.Making.{step-comes, step-sound, step-counted}
use Rattle.kom_core.proofs.Worlds.{consistent, respects}
use Rattle.kom_core.proofs.server_core.Core.make_kept.Goals as goal

pub invariant_of-self : goal.invariant_of-self
invariant_of-self g c =
    step-sound c.self.inside.server c.make.new.self c.args.entry.now c.make.result c.requires.user c.self.invariant
    c.make.ensures.steps

pub returns-clause-comes : goal.returns-clause-comes
returns-clause-comes g c =
    subst (λ (old : State). CoreComes old c.args.entry.now c.make.new.self c.make.result)
    (ap (λ held. held.state) c.self.view_is)
    (step-comes c.self.inside.server c.make.new.self c.args.entry.now c.make.result c.requires.user
    c.make.ensures.steps)

pub returns-clause-consistent : goal.returns-clause-consistent
returns-clause-consistent g c =
    subst (λ (old : State). IsConsistent old c.args.entry.now c.make.new.self c.make.result)
    (ap (λ held. held.state) c.self.view_is)
    (consistent c.self.inside.server c.make.new.self c.args.entry.now c.make.result c.self.invariant
    (step-comes c.self.inside.server c.make.new.self c.args.entry.now c.make.result c.requires.user
    c.make.ensures.steps))

pub returns-clause-respects : goal.returns-clause-respects
returns-clause-respects g c =
    subst (λ (old : State). RespectsGroups old c.args.entry.now c.make.new.self c.make.result)
    (ap (λ held. held.state) c.self.view_is)
    (respects c.self.inside.server c.make.new.self c.args.entry.now c.make.result c.self.invariant
    (step-comes c.self.inside.server c.make.new.self c.args.entry.now c.make.result c.requires.user
    c.make.ensures.steps))

pub returns-clause-counted : goal.returns-clause-counted
returns-clause-counted g c =
    subst (λ (old : State). c.make.new.self.entries ≤ old.entries + 1) (ap (λ held. held.state) c.self.view_is)
    (step-counted c.self.inside.server c.make.new.self c.args.entry.now c.make.result c.make.ensures.steps)

pub returns-clause-sound : goal.returns-clause-sound
returns-clause-sound g c =
    step-sound c.self.inside.server c.make.new.self c.args.entry.now c.make.result c.requires.user c.self.invariant
    c.make.ensures.steps
