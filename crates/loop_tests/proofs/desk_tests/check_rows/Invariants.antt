-- The two sessions stay open.
use Rattle.kom_links.specs.Records.{IsOpen}
use Rattle.memory_links.specs.Memories.{desk_view}
use Rattle.loop_tests.proofs.desk_tests.check_rows.Given as goal

abbrev pub invariant-loop-is_second : goal.invariant-loop-is_second
invariant-loop-is_second g l = record {
  first : IsOpen l.first (desk_view l.desk).mine;
  second : IsOpen l.second (desk_view l.desk).mine;
}
