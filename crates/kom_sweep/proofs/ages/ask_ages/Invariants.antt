use Rattle.std.proofs.Common.{◌≡◌, ℕ, map, take, List, Option}
use Rattle.std.specs.Prelude.{filter_map}
use Rattle.kom_types.specs.declared.replies.Reply.{Reply}
use Rattle.kom_links.specs.Records.{IsOpen}
use Rattle.kom_sweep.specs.Acting.{sight, Goes}
use Rattle.kom_sweep.specs.Due.{child_in}
use Rattle.kom_sweep.specs.Walks.{told_child}
use Rattle.kom_sweep.specs.Ages.{TellsOf}
use Rattle.kom_sweep.proofs.ages.ask_ages.Given as goal

-- the first ones were asked about
abbrev pub invariant-loop-info : goal.invariant-loop-info
invariant-loop-info g l = record {
  asked : (children : List (ℕ × Option Reply))
      × (map (λ child. child.0) children ≡ filter_map child_in (take l.info-index l.infos))
      × Goes l.session (sight (g.K.Desk.view l.fn.desk) (g.C.Clock.gave l.fn.clock) l.fn.talk.next)
      (sight (g.K.Desk.view l.desk) (g.C.Clock.gave l.clock) l.talk.next) (map told_child children)
      × TellsOf l.moment children l.ages;
  opened : IsOpen l.session (g.K.Desk.view l.desk).mine;
  on : g.K.Desk.goes_on l.fn.desk l.desk;
}
