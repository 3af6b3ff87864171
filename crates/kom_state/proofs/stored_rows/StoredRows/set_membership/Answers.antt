use Rattle.kom_state.proofs.Making.{IsMade-set, room_to_set}
use Rattle.std.proofs.Common.{refl}
use Rattle.kom_state.specs.Room.{set_of}
use Rattle.kom_state.proofs.Kept.{IsKept-made}
use Rattle.kom_state.proofs.stored_rows.StoredRows.set_membership.Goals as goal

pub invariant_of-self : goal.invariant_of-self
invariant_of-self c =
    IsKept-made (set_of c.args.row) _ _ _ _ c.self.invariant
    (rw (← c.self.view_is) at c.requires.possible.fits)
    (IsMade-set {items = c.self.inside.items} c.args.row c.self.inside.conferences c.self.inside.persons _ _
    c.self.inside.names c.self.inside.texts _ _ c.requires.fresh (rw c.unwrap.ensures at c.set.ensures.ok)
    (rw c.unwrap.ensures at c.set.ensures.reads) c.set.ensures.room).db refl

pub unwrap-requires : goal.unwrap-requires
unwrap-requires c =
    let room = room_to_set _ c.args.row (rw (← c.self.view_is) at c.requires.possible.room) in
    c.set.ensures.succeeds room.0 room.1 room.2

pub returns : goal.returns
returns c = rw (← c.self.view_is)
    (IsMade-set c.args.row _ _ _ _ c.self.inside.names _ _ _ c.requires.fresh
    (rw c.unwrap.ensures at c.set.ensures.ok) (rw c.unwrap.ensures at c.set.ensures.reads) c.set.ensures.room)
