use Rattle.disk_example.specs.Cell.{content_of, Stays}
use Rattle.disk_example.proofs.cell.Cell.write_other.Given as goal

abbrev pub ghosts-calls_in_turn : goal.ghosts-calls_in_turn
ghosts-calls_in_turn g a = record { holds = Stays (content_of (g.D.Disk.bytes a.about.now)) }
