use Rattle.std.proofs.Common.{ap, ◌∙◌}
use Rattle.kom_journal.specs.Pending.{effects_in}
use Rattle.kom_journal.proofs.Spelled.{spells_more}
use Rattle.kom_journal.proofs.Views.{adds_whole}
use Rattle.kom_journal.proofs.journal.Journal.add.Goals as goal

pub invariant_of-self : goal.invariant_of-self
invariant_of-self g c =
    adds_whole g.D.Disk.moment g.D.Disk.images_at g.D.Disk.bytes g.D.Disk.images g.D.Disk.tells c.self.inside.refused
    c.self.inside.log c.append.new.self c.args.effect.now c.append.ensures.same c.append.ensures.body
    c.append.ensures.encoded c.self.invariant

pub returns-clause-pending : goal.returns-clause-pending
returns-clause-pending g c =
    rw (← c.self.view_is)
    (ap effects_in c.append.ensures.body
    ∙ (spells_more c.self.inside.log.body c.args.effect.now c.self.invariant.spelled c.append.ensures.encoded).effects)
