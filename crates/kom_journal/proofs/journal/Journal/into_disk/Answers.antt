use Rattle.std.proofs.Common.{◌≡◌, false, ◌∙◌}
use Rattle.kom_journal.proofs.Views.{rest_size}
use Rattle.kom_journal.proofs.journal.Journal.into_disk.Goals as goal

pub returns-clause-size : goal.returns-clause-size
returns-clause-size g c told =
    rw (← c.self.view_is) (λ (calm : c.self.inside.refused ≡ false).
    g.met.D.Disk.counts_bytes c.self.inside.log.disk told
    ∙ rest_size c.self.inside.log.place (g.D.Disk.bytes c.self.inside.log.disk)
    (c.self.invariant.stored calm told).at_rest.closed)
