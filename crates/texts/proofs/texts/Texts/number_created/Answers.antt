use Rattle.texts.proofs.Keeping.{kept-numbered_if}
use Rattle.texts.proofs.Rooms.{room_for_created}
use Rattle.texts.proofs.texts.Texts.number_created.Goals as goal

pub unwrap-requires : goal.unwrap-requires
unwrap-requires c =
    c.append.ensures.succeeds
    (rw (← c.self.view_is) at (room_for_created c.args.self.now.room c.args.person c.requires.room))

pub invariant_of-self : goal.invariant_of-self
invariant_of-self c =
    let above = rw (← c.self.view_is) at c.requires.above in
    let unnumbered = rw (← c.self.view_is) at c.requires.unnumbered in
    rw c.set_created_local.ensures.rows
    (kept-numbered_if _ _ _ _ c.self.invariant c.append.new.self c.args.person c.args.local c.args.text unnumbered
    c.requires.positive above (rw c.unwrap.ensures at c.append.ensures.ok) c.append.ensures.others)
