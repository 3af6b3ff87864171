use Rattle.std.proofs.Common.{◌≡◌, ◌≤◌, ◌-◌, List, flat_map, length}
use Rattle.std.specs.List.{AllByRecursion}
use Rattle.kom_links.specs.Records.{IsOpen}
use Rattle.kom_sweep.specs.Acting.{sight, Goes}
use Rattle.kom_sweep.specs.Due.{Step, Walk, Room, Look, is_whole}
use Rattle.kom_sweep.specs.Walks.{Leads, IsLook, told_at_text, due_in}
use Rattle.kom_sweep.specs.Names.{Knows}
use Rattle.kom_sweep.proofs.looking.find_due.Given as goal

-- the first texts were looked at
abbrev pub invariant-texts : goal.invariant-texts
invariant-texts g l = record {
  asked : (steps : List (Step Look)) × Leads 0 steps l.at × AllByRecursion (λ step. IsLook step.told) steps
      × Goes l.session (sight (g.K.Desk.view l.fn.desk) (g.C.Clock.gave l.fn.clock) l.fn.talk.next)
      (sight (g.K.Desk.view l.desk) (g.C.Clock.gave l.clock) l.talk.next) (flat_map told_at_text steps)
      × (l.found.count ≡ length steps)
      × ((rooms : Walk Room) → Knows rooms.steps (is_whole rooms) l.judge.names.now
      → l.found.due.items ≡ due_in l.judge.moment rooms steps);
  counted : l.found.count ≤ l.at;
  opened : IsOpen l.session (g.K.Desk.view l.desk).mine;
  on : g.K.Desk.goes_on l.fn.desk l.desk;
}

abbrev pub decreases-texts : goal.decreases-texts
decreases-texts g l = 4294967295 - l.at
