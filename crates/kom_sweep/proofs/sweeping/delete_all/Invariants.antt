use Rattle.std.proofs.Common.{◌≡◌, ◌≤◌, ℕ, List, Option, map, take}
use Rattle.kom_types.specs.declared.replies.Reply.{Reply}
use Rattle.kom_links.specs.Records.{IsOpen}
use Rattle.kom_sweep.specs.Acting.{sight, Goes}
use Rattle.kom_sweep.specs.Walks.{told_deletions}
use Rattle.kom_sweep.specs.Sweeps.{swept_in}
use Rattle.kom_sweep.proofs.sweeping.delete_all.Given as goal

-- the first texts were deleted, or that was refused
abbrev pub invariant-loop-text : goal.invariant-loop-text
invariant-loop-text g l = record {
  asked : (gone : List (ℕ × Option Reply)) × (map (λ one. one.0) gone ≡ take l.text-index l.due)
      × (l.swept ≡ swept_in gone)
      × Goes l.session (sight (g.K.Desk.view l.fn.desk) (g.C.Clock.gave l.fn.clock) l.fn.talk.next)
      (sight (g.K.Desk.view l.desk) (g.C.Clock.gave l.clock) l.talk.next) (told_deletions gone);
  counted : l.swept ≤ l.text-index;
  opened : IsOpen l.session (g.K.Desk.view l.desk).mine;
  on : g.K.Desk.goes_on l.fn.desk l.desk;
}
