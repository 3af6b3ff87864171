use Rattle.std.proofs.Common.{◌<◌, length}
use Rattle.kom_hub.specs.Crowds.{Carries}
use Rattle.kom_hub.proofs.rounds.collect_some.Given as goal

-- whoever took a turn, the crowd is one still
abbrev pub invariant-loop-place : goal.invariant-loop-place
invariant-loop-place g l = record {
  room : 0 < length l.buffer;
  stands : Carries g.T.Converse.kept g.T.Converse.talks g.L.Link.view (g.K.Desk.view l.fn.desk)
      (g.C.Clock.gave l.fn.clock) l.fn.crowd (g.K.Desk.view l.desk) (g.C.Clock.gave l.clock) l.crowd;
  on : g.K.Desk.goes_on l.fn.desk l.desk;
}
