use Rattle.std.proofs.Common.{ap}
use Rattle.std.proofs.lemmas.List.{length-map}
use Rattle.indexmap.specs.IndexMap.{values}
use Rattle.sessions.proofs.Kept.{reserved, connected}
use Rattle.sessions.proofs.Numbered.{added}
use Rattle.sessions.proofs.table.Sessions.connect.Goals as goal

-- no room was made
pub invariant_of-self : goal.invariant_of-self
invariant_of-self c = (
  c.self.invariant.0,
  reserved c.self.inside.accepting.lists c.reserve.new.self.lists (values c.self.inside.rows) c.reserve.ensures.lists
      c.reserve.ensures.room c.self.invariant.1,
  c.self.invariant.2,
)

-- or none for the row
pub invariant_of-self-in_err-insert : goal.invariant_of-self-in_err-insert
invariant_of-self-in_err-insert c =
    rw c.in_err-insert.ensures.err (
      c.self.invariant.0,
      reserved c.self.inside.accepting.lists c.reserve.new.self.lists (values c.self.inside.rows)
          c.reserve.ensures.lists c.reserve.ensures.room c.self.invariant.1,
      c.self.invariant.2,
    )

pub invariant_of-self-2 : goal.invariant_of-self-2
invariant_of-self-2 c =
    let adds = added c.self.inside.rows c.insert.new.self c.self.invariant.0 c.self.invariant.2
    c.seat.result.now.number c.args.row (ap (λ seat. seat.number) c.seat.ensures)
    (rw c.self.view_is c.requires.below) c.in_ok-insert.ensures.entries in (
      adds.rising,
      rw adds.pushed (connected c.self.inside.accepting.lists c.reserve.new.self.lists (values c.self.inside.rows)
          c.args.row c.requires.silent c.reserve.ensures.lists
          (rw (length-map c.self.inside.rows.entries (λ e. e.1), ← c.len-count.ensures.len) c.in_ok-reserve.ensures.ok)
          c.self.invariant.1),
      adds.numbered,
    )

pub returns-clause-ok : goal.returns-clause-ok
returns-clause-ok c =
    let adds = added c.self.inside.rows c.insert.new.self c.self.invariant.0 c.self.invariant.2
    c.seat.result.now.number c.args.row (ap (λ seat. seat.number) c.seat.ensures)
    (rw c.self.view_is c.requires.below) c.in_ok-insert.ensures.entries in
    rw (← c.self.view_is) adds.pushed
