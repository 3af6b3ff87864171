use Rattle.texts.proofs.Rooms.{room_for_link}
use Rattle.texts.proofs.texts.Texts.add_link.Goals as goal

pub add-requires : goal.add-requires
add-requires c = record {
  absent = rw (← c.self.view_is) at c.requires.absent;
  room = rw (← c.self.view_is) at (room_for_link c.args.self.now.room c.args.given c.requires.room);
}
