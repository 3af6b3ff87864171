use Rattle.std.proofs.Common.{refl}
use Rattle.kom_hub.proofs.Passing.{seat_is}
use Rattle.kom_hub.proofs.guest.Guest.close.Goals as goal

pub returns-clause-closed : goal.returns-clause-closed
returns-clause-closed g c = record {
  place = c.close_talk-end.new.place;
  leaves = c.close_talk-end.ensures.leaves;
  session = refl;
  talk = c.close_talk-end.ensures.talks c.close_talk-end.new.place.session
      (seat_is c.close_talk-end.new.place.session (g.K.Desk.view c.close_talk-end.new.desk).mine
      (c.close_talk-end.ensures.leaves.has c.requires.guest.known));
  timed = c.close_talk-end.ensures.timed;
}
