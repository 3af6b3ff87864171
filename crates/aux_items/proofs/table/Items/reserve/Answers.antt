use Rattle.std.proofs.Common.{◌≤◌, ap, arith}
use Rattle.aux_items.specs.Items.{Attached, room_on}
use Rattle.aux_items.specs.Objects.{room_at}
use Rattle.aux_items.proofs.Rooms.{room_among-is, rooms_stay, on_ok}
use Rattle.aux_items.proofs.table.Items.reserve.Goals as goal

pub returns-clause-ok : goal.returns-clause-ok
returns-clause-ok c =
    let of_objects = c.reserve-2.new.self in
    on_ok c.reserve-2.result
    (λ (fits : c.args.additional ≤ room_at of_objects c.args.on_text c.args.object). record {
      spare = c.in_ok-reserve.ensures.ok;
      of_object = omega (arith, room_among-is of_objects c.args.on_text c.args.object, fits);
    })
    c.reserve-2.ensures.ok

pub returns-clause-succeeds : goal.returns-clause-succeeds
returns-clause-succeeds c had =
    let same = ap (λ (t : Attached). room_on t c.args.on_text c.args.object) c.self.view_is in
    c.reserve-2.ensures.succeeds
    (omega (
      arith,
      same,
      room_among-is c.self.inside.of_objects c.args.on_text c.args.object,
      had.of_object,
    ))

pub returns-clause-room : goal.returns-clause-room
returns-clause-room c =
    rw (← c.self.view_is)
    (record {
      spare = omega (arith, c.reserve.ensures.spare);
      of_objects = rooms_stay c.self.inside.of_objects c.reserve-2.new.self c.reserve-2.ensures.room;
    })
