use Rattle.std.proofs.Common.{◌∙◌, refl}
use Rattle.kom_hub.proofs.rounds.go_on_some.Goals as goal

pub loop-place-init : goal.loop-place-init
loop-place-init g c = record {
  stands = λ begun stands. stands;
  ended = refl;
  on = g.met.K.Desk.goes_on_itself _;
}

pub go_on_at-leaves-requires : goal.go_on_at-leaves-requires
go_on_at-leaves-requires g c = record {
  can = (c.requires.can.0, _, c.loop-place.invariant.stands c.requires.can.0 c.requires.can.1);
}

pub loop-place-preserved : goal.loop-place-preserved
loop-place-preserved g c = record {
  stands = λ begun stands. c.go_on_at-leaves.ensures.stands begun (c.loop-place.invariant.stands begun stands);
  ended = c.go_on_at-leaves.ensures.ended ∙ c.loop-place.invariant.ended;
  on = g.met.K.Desk.goes_on_further _ _ _ c.loop-place.invariant.on c.go_on_at-leaves.ensures.on;
}

pub returns-clause-stands : goal.returns-clause-stands
returns-clause-stands g c = c.loop-place.invariant.stands
