use Rattle.texts.proofs.Keeping.{kept-received}
use Rattle.texts.proofs.Rooms.{room_for_local, room_for_recipient}
use Rattle.texts.proofs.texts.Texts.add_recipient.Goals as goal

pub unwrap-requires : goal.unwrap-requires
unwrap-requires c =
    c.append.ensures.succeeds
    (rw (← c.self.view_is) at (room_for_local c.args.self.now.room c.args.given c.requires.room))

pub add-requires : goal.add-requires
add-requires c = record {
  absent = rw (← c.self.view_is) at c.requires.absent;
  room = rw (← c.self.view_is) at (room_for_recipient c.args.self.now.room c.args.given c.requires.room);
}

pub invariant_of-self : goal.invariant_of-self
invariant_of-self c =
    let above = rw (← c.self.view_is) at c.requires.above in
    rw c.add.ensures.recipients
    (kept-received _ _ _ _ c.self.invariant c.append.new.self c.args.given above
    (rw c.unwrap.ensures at c.append.ensures.ok) c.append.ensures.others)
