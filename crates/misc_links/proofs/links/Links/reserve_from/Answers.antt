use Rattle.std.proofs.Common.{◌≤◌, ◌<◌, OnOk, OnErr, sym, subst, arith}
use Rattle.misc_links.specs.Linked.{Linked, room_from}
use Rattle.misc_links.proofs.Rooms.{room_among-is, rooms_stay, no_room}
use Rattle.misc_links.proofs.links.Links.reserve_from.Goals as goal

pub returns-clause-ok : goal.returns-clause-ok
returns-clause-ok c =
    subst (λ n. OnOk c.reserve.result (c.args.additional ≤ n))
    (sym (room_among-is c.reserve.new.self c.args.text c.args.footnote)) c.reserve.ensures.ok

pub returns-clause-err : goal.returns-clause-err
returns-clause-err c =
    subst (λ (table : Linked). OnErr c.reserve.result (room_from table c.args.text c.args.footnote < c.args.additional))
    c.self.view_is
    (subst (λ n. OnErr c.reserve.result (n < c.args.additional))
    (sym (room_among-is c.self.inside.from c.args.text c.args.footnote))
    (no_room c.reserve.result _ _ c.reserve.ensures.succeeds))

pub returns-clause-room : goal.returns-clause-room
returns-clause-room c =
    rw (← c.self.view_is)
    (record {
      spare = omega arith;
      from = rooms_stay c.self.inside.from c.reserve.new.self c.reserve.ensures.room;
      into = λ text kind. omega arith;
    })
