use Rattle.std.proofs.Common.{ap, arith}
use Rattle.std.proofs.lemmas.Bool.{false≢true}
use Rattle.row_slots.specs.Lists.{room_of}
use Rattle.row_slots.proofs.Rooms.{room_in-rooms_of, rooms_stay}
use Rattle.marks.specs.Marked.{Marked, room_of_person}
use Rattle.marks.proofs.OneList.{on_err, too_many}
use Rattle.marks.proofs.table.MarkTable.reserve_of_person.Goals as goal

pub returns-in_err-reserve-clause-err : goal.returns-in_err-reserve-clause-err
returns-in_err-reserve-clause-err c =
    let same = ap (λ (t : Marked). room_of_person t c.args.person) c.self.view_is in
    let few = too_many c.args.additional (room_of c.self.inside.of_person c.args.person)
    (λ fits. false≢true (c.in_err-reserve.ensures.succeeds fits)) in
    on_err c.from_residual.result _ (omega (arith, same, few, room_in-rooms_of c.self.inside.of_person c.args.person))

pub returns-in_err-reserve-clause-room : goal.returns-in_err-reserve-clause-room
returns-in_err-reserve-clause-room c =
    rw (← c.self.view_is)
    (record {
      spare = omega arith;
      persons = rooms_stay c.self.inside.of_person c.reserve.new.self c.reserve.ensures.room;
      texts = λ text. omega arith;
    })

pub returns-clause-ok : goal.returns-clause-ok
returns-clause-ok c =
    omega (arith, c.in_ok-reserve.ensures.ok, room_in-rooms_of c.reserve.new.self c.args.person)

pub returns-clause-room : goal.returns-clause-room
returns-clause-room c =
    rw (← c.self.view_is)
    (record {
      spare = omega arith;
      persons = rooms_stay c.self.inside.of_person c.reserve.new.self c.reserve.ensures.room;
      texts = λ text. omega arith;
    })
