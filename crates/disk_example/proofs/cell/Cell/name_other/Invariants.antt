use Rattle.disk_example.specs.Cell.{content_of, other_of, IsEither}
use Rattle.disk_example.proofs.cell.Cell.name_other.Given as goal

abbrev pub ghosts-calls_in_turn : goal.ghosts-calls_in_turn
ghosts-calls_in_turn g a =
    record { holds = IsEither (content_of (g.D.Disk.bytes a.about.now)) (other_of (g.D.Disk.bytes a.about.now)) }
