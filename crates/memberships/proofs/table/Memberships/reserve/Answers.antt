use Rattle.std.proofs.Common.{ap, arith}
use Rattle.std.proofs.lemmas.Bool.{false≢true}
use Rattle.memberships.specs.Table.{Table, room_of_person, room_of_conference}
use Rattle.memberships.proofs.Rooms.{room_in-both, both_stay}
use Rattle.memberships.proofs.table.Memberships.reserve.Goals as goal

pub returns-in_err-reserve-2-clause-succeeds : goal.returns-in_err-reserve-2-clause-succeeds
returns-in_err-reserve-2-clause-succeeds c =
    λ enough.
    let same = ap (λ (t : Table). room_of_person t c.args.person) c.self.view_is in
    absurd (false≢true (c.in_err-reserve-2.ensures.succeeds
    (omega (
      arith,
      same,
      room_in-both c.self.inside.conferences c.self.inside.secret_conferences c.args.person,
      enough.of_person,
    ))))

pub returns-in_err-reserve-2-clause-room : goal.returns-in_err-reserve-2-clause-room
returns-in_err-reserve-2-clause-room c =
    rw (← c.self.view_is)
    (record {
      spare = omega (arith, c.reserve.ensures.room.0);
      persons = both_stay c.self.inside.conferences c.reserve-2.new.self c.self.inside.secret_conferences
          c.self.inside.secret_conferences c.reserve-2.ensures.room (λ key. omega arith);
      conferences = λ conference. omega arith;
    })

pub returns-in_err-reserve-3-clause-succeeds : goal.returns-in_err-reserve-3-clause-succeeds
returns-in_err-reserve-3-clause-succeeds c =
    λ enough.
    let same = ap (λ (t : Table). room_of_conference t c.args.conference) c.self.view_is in
    absurd (false≢true (c.in_err-reserve-3.ensures.succeeds
    (omega (
      arith,
      same,
      room_in-both c.self.inside.persons c.self.inside.secret_persons c.args.conference,
      enough.of_conference,
    ))))

pub returns-in_err-reserve-3-clause-room : goal.returns-in_err-reserve-3-clause-room
returns-in_err-reserve-3-clause-room c =
    rw (← c.self.view_is)
    (record {
      spare = omega (arith, c.reserve.ensures.room.0);
      persons = both_stay c.self.inside.conferences c.reserve-2.new.self c.self.inside.secret_conferences
          c.self.inside.secret_conferences c.reserve-2.ensures.room (λ key. omega arith);
      conferences = both_stay c.self.inside.persons c.reserve-3.new.self c.self.inside.secret_persons
          c.self.inside.secret_persons c.reserve-3.ensures.room (λ key. omega arith);
    })

pub returns-in_err-reserve-4-clause-succeeds : goal.returns-in_err-reserve-4-clause-succeeds
returns-in_err-reserve-4-clause-succeeds c =
    λ enough.
    let same = ap (λ (t : Table). room_of_person t c.args.person) c.self.view_is in
    absurd (false≢true (c.in_err-reserve-4.ensures.succeeds
    (omega (
      arith,
      same,
      room_in-both c.self.inside.conferences c.self.inside.secret_conferences c.args.person,
      enough.of_person,
    ))))

pub returns-in_err-reserve-4-clause-room : goal.returns-in_err-reserve-4-clause-room
returns-in_err-reserve-4-clause-room c =
    rw (← c.self.view_is)
    (record {
      spare = omega (arith, c.reserve.ensures.room.0);
      persons = both_stay c.self.inside.conferences c.reserve-2.new.self c.self.inside.secret_conferences
          c.reserve-4.new.self c.reserve-2.ensures.room c.reserve-4.ensures.room;
      conferences = both_stay c.self.inside.persons c.reserve-3.new.self c.self.inside.secret_persons
          c.self.inside.secret_persons c.reserve-3.ensures.room (λ key. omega arith);
    })

pub returns-in_err-reserve-5-clause-succeeds : goal.returns-in_err-reserve-5-clause-succeeds
returns-in_err-reserve-5-clause-succeeds c =
    λ enough.
    let same = ap (λ (t : Table). room_of_conference t c.args.conference) c.self.view_is in
    absurd (false≢true (c.in_err-reserve-5.ensures.succeeds
    (omega (
      arith,
      same,
      room_in-both c.self.inside.persons c.self.inside.secret_persons c.args.conference,
      enough.of_conference,
    ))))

pub returns-in_err-reserve-5-clause-room : goal.returns-in_err-reserve-5-clause-room
returns-in_err-reserve-5-clause-room c =
    rw (← c.self.view_is)
    (record {
      spare = omega (arith, c.reserve.ensures.room.0);
      persons = both_stay c.self.inside.conferences c.reserve-2.new.self c.self.inside.secret_conferences
          c.reserve-4.new.self c.reserve-2.ensures.room c.reserve-4.ensures.room;
      conferences = both_stay c.self.inside.persons c.reserve-3.new.self c.self.inside.secret_persons
          c.reserve-5.new.self c.reserve-3.ensures.room c.reserve-5.ensures.room;
    })

pub returns-clause-ok : goal.returns-clause-ok
returns-clause-ok c = record {
  spare = omega (arith, c.in_ok-reserve.ensures.ok);
  of_person = omega (
    arith,
    c.in_ok-reserve-2.ensures.ok,
    c.in_ok-reserve-4.ensures.ok,
    room_in-both c.reserve-2.new.self c.reserve-4.new.self c.args.person,
  );
  of_conference = omega (
    arith,
    c.in_ok-reserve-3.ensures.ok,
    c.in_ok-reserve-5.ensures.ok,
    room_in-both c.reserve-3.new.self c.reserve-5.new.self c.args.conference,
  );
}

pub returns-clause-room : goal.returns-clause-room
returns-clause-room c =
    rw (← c.self.view_is)
    (record {
      spare = omega (arith, c.reserve.ensures.room.0);
      persons = both_stay c.self.inside.conferences c.reserve-2.new.self c.self.inside.secret_conferences
          c.reserve-4.new.self c.reserve-2.ensures.room c.reserve-4.ensures.room;
      conferences = both_stay c.self.inside.persons c.reserve-3.new.self c.self.inside.secret_persons
          c.reserve-5.new.self c.reserve-3.ensures.room c.reserve-5.ensures.room;
    })
