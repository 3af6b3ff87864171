use Rattle.std.proofs.Common.{sym}
use Rattle.kom_hub.proofs.Standing.{stands_turned}
use Rattle.kom_hub.proofs.crowd.turn_at.Goals as goal

pub take_turn-requires-clause-kept : goal.take_turn-requires-clause-kept
take_turn-requires-clause-kept g c =
    (c.requires.can.2.is.each c.args.key c.in-Some.guest.now (sym c.in-Some.ensures.value)).served

pub returns-in_default-clause-stands : goal.returns-in_default-clause-stands
returns-in_default-clause-stands g c = λ begun gate stands. stands

pub returns-clause-stands : goal.returns-clause-stands
returns-clause-stands g c = λ begun gate stands.
    stands_turned g.T.Converse.kept g.T.Converse.talks g.L.Link.view g.met.T.Converse.kept_on
    g.met.T.Converse.talks_on begun _ _ _ _ c.args.crowd.now c.args.key c.in-Some.guest.now c.take_turn.new.self gate
    stands (sym c.in-Some.ensures.value) c.take_turn.ensures.served c.take_turn.ensures.leaves c.take_turn.ensures.timed
