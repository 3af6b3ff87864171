use Rattle.std.proofs.Common.{◌-◌, List, flat_map}
use Rattle.std.specs.List.{list_all}
use Rattle.kom_links.specs.Records.{IsOpen}
use Rattle.kom_sweep.specs.Acting.{sight, Goes}
use Rattle.kom_sweep.specs.Due.{Step, Room, is_told_room}
use Rattle.kom_sweep.specs.Walks.{Leads, told_at_room}
use Rattle.kom_sweep.specs.Names.{Knows}
use Rattle.kom_sweep.proofs.visiting.ask_names.Given as goal

-- the first conferences were asked about
abbrev pub invariant-rooms : goal.invariant-rooms
invariant-rooms g l = record {
  asked : (steps : List (Step Room)) × Leads 0 steps l.at
      × Goes l.session (sight (g.K.Desk.view l.fn.desk) (g.C.Clock.gave l.fn.clock) l.fn.talk.next)
      (sight (g.K.Desk.view l.desk) (g.C.Clock.gave l.clock) l.talk.next) (flat_map told_at_room steps)
      × Knows steps (list_all is_told_room steps) l.names;
  opened : IsOpen l.session (g.K.Desk.view l.desk).mine;
  on : g.K.Desk.goes_on l.fn.desk l.desk;
}

abbrev pub decreases-rooms : goal.decreases-rooms
decreases-rooms g l = 4294967295 - l.at
