use Rattle.std.proofs.Common.{◌<◌, ap, arith}
use Rattle.std.proofs.lemmas.Result.{IfErr-at_err}
use Rattle.row_slots.proofs.DenseRooms.{dense_room_in-dense_rooms, dense_rooms_stay}
use Rattle.row_slots.specs.DenseLists.{dense_room}
use Rattle.misc_links.specs.Received.{Received, room_of_text}
use Rattle.misc_links.proofs.Rooms.{no_room, on_err}
use Rattle.misc_links.proofs.recipients.Recipients.reserve_of.Goals as goal

pub returns-in_err-reserve-clause-err : goal.returns-in_err-reserve-clause-err
returns-in_err-reserve-clause-err c =
    let same = ap (λ (t : Received). room_of_text t c.args.text) c.self.view_is in
    let less : dense_room c.self.inside.by_text c.args.text < c.args.additional =
    IfErr-at_err (λ _. dense_room c.self.inside.by_text c.args.text < c.args.additional) c.in_err-reserve.was
    (no_room c.reserve.result c.args.additional (dense_room c.self.inside.by_text c.args.text)
    c.reserve.ensures.succeeds) in
    on_err c.from_residual.result (omega (
      arith,
      same,
      dense_room_in-dense_rooms c.self.inside.by_text c.args.text,
      less,
    ))

pub returns-in_err-reserve-clause-room : goal.returns-in_err-reserve-clause-room
returns-in_err-reserve-clause-room c =
    rw (← c.self.view_is)
    (record {
      spare = omega arith;
      texts = dense_rooms_stay c.self.inside.by_text c.reserve.new.self c.reserve.ensures.room;
    })

pub returns-clause-ok : goal.returns-clause-ok
returns-clause-ok c = omega (
  arith,
  dense_room_in-dense_rooms c.reserve.new.self c.args.text,
  c.in_ok-reserve.ensures.ok,
)

pub returns-clause-room : goal.returns-clause-room
returns-clause-room c =
    rw (← c.self.view_is)
    (record {
      spare = omega arith;
      texts = dense_rooms_stay c.self.inside.by_text c.reserve.new.self c.reserve.ensures.room;
    })
