use Rattle.texts.proofs.Rooms.{room_for_mark}
use Rattle.texts.proofs.texts.Texts.set_mark.Goals as goal

pub unwrap-requires : goal.unwrap-requires
unwrap-requires c =
    c.set.ensures.succeeds
    (rw (← c.self.view_is) at (room_for_mark c.args.self.now.room c.args.given c.requires.room))
