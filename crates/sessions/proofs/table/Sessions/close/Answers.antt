use Rattle.std.proofs.Common.{◌∙◌, sym, refl}
use Rattle.indexmap.specs.IndexMap.{values}
use Rattle.sessions.specs.Accepting.{accepts}
use Rattle.sessions.proofs.Accepted.{may-move}
use Rattle.sessions.proofs.Kept.{closed}
use Rattle.sessions.proofs.Numbered.{got, removed}
use Rattle.sessions.proofs.table.Sessions.close.Goals as goal

-- no such session
pub returns-in_err-row-clause-row : goal.returns-in_err-row-clause-row
returns-in_err-row-clause-row c =
    rw (c.from_residual.ensures, ← c.self.view_is)
    (c.in_err-row.ensures.value ∙ got c.self.inside.rows c.self.invariant.2 c.args.session)

pub returns-in_err-row-clause-rest : goal.returns-in_err-row-clause-rest
returns-in_err-row-clause-rest c =
    let took = removed c.self.inside.rows c.shift_remove.new.self c.self.invariant.0 c.self.invariant.2 c.args.session
    c.in_err-row.ensures.entries in
    rw (← c.self.view_is) took.filtered

pub change-requires : goal.change-requires
change-requires c message below =
    let there = sym (c.in_ok-row.ensures.value ∙ got c.self.inside.rows c.self.invariant.2 c.args.session) in
    rw c.seat.ensures
    (may-move c.self.inside.accepting.lists (values c.self.inside.rows) c.args.session message c.in_ok-row.row
    (accepts message c.in_ok-row.row) _ c.self.invariant.1 below there refl)

pub invariant_of-self-2 : goal.invariant_of-self-2
invariant_of-self-2 c =
    let there = sym (c.in_ok-row.ensures.value ∙ got c.self.inside.rows c.self.invariant.2 c.args.session) in
    let took = removed c.self.inside.rows c.shift_remove.new.self c.self.invariant.0 c.self.invariant.2 c.args.session
    c.in_ok-row.ensures.entries in (
      took.rising,
      rw took.filtered (closed c.self.inside.accepting.lists c.change.new.self.lists (values c.self.inside.rows)
          c.args.session c.in_ok-row.row c.self.invariant.0 there c.self.invariant.1
          (rw c.seat.ensures at c.change.ensures.lists) c.change.ensures.room),
      took.numbered,
    )

pub returns-clause-row : goal.returns-clause-row
returns-clause-row c =
    rw (← c.self.view_is) (c.in_ok-row.ensures.value ∙ got c.self.inside.rows c.self.invariant.2 c.args.session)

pub returns-clause-rest : goal.returns-clause-rest
returns-clause-rest c =
    let took = removed c.self.inside.rows c.shift_remove.new.self c.self.invariant.0 c.self.invariant.2 c.args.session
    c.in_ok-row.ensures.entries in
    rw (← c.self.view_is) took.filtered
