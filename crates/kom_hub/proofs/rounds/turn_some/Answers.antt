use Rattle.kom_hub.proofs.rounds.turn_some.Goals as goal

pub loop-place-init : goal.loop-place-init
loop-place-init g c = record {
  room = c.requires.room;
  stands = λ begun gate stands. stands;
  on = g.met.K.Desk.goes_on_itself _;
}

pub turn_at-requires-clause-can : goal.turn_at-requires-clause-can
turn_at-requires-clause-can g c =
    (c.requires.can.0, c.requires.can.1, c.loop-place.invariant.stands _ _ c.requires.can.2)

pub loop-place-preserved : goal.loop-place-preserved
loop-place-preserved g c = record {
  room = c.turn_at.ensures.room;
  stands = λ begun gate stands. c.turn_at.ensures.stands begun gate
      (c.loop-place.invariant.stands begun gate stands);
  on = g.met.K.Desk.goes_on_further _ _ _ c.loop-place.invariant.on c.turn_at.ensures.on;
}

pub returns-clause-stands : goal.returns-clause-stands
returns-clause-stands g c = c.loop-place.invariant.stands
