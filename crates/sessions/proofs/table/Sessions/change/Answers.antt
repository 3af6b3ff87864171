use Rattle.std.proofs.Common.{◌≡◌, ◌∙◌, nat_eq, Some, refl, sym, ap}
use Rattle.std.specs.Option.{option_copied_mut}
use Rattle.indexmap.specs.IndexMap.{values, get}
use Rattle.kom_types.specs.Sessions.{Session, after_change, changed_session}
use Rattle.sessions.specs.Accepting.{accepts}
use Rattle.sessions.proofs.Accepted.{may-move}
use Rattle.sessions.proofs.Kept.{changed-lists}
use Rattle.sessions.proofs.Keeping.{changed_keeps}
use Rattle.sessions.proofs.Numbered.{got, lent, Written, written}
use Rattle.sessions.proofs.table.Sessions.change.Goals as goal
use Rattle.sessions.proofs.table.Sessions.change.Goals.{After-change-2}

abbrev change : After-change-2 → Session → Session
change c = after_change c.args.change c.args.at

pub unwrap-row-requires : goal.unwrap-row-requires
unwrap-row-requires c =
    lent c.self.inside.rows c.self.invariant.2 c.session_of-session.result c.get_mut.result c.get_mut.ensures.value
    (rw (c.session_of-session.ensures, c.self.view_is) c.requires.there)

wrote : (c : After-change-2) → Written c.self.inside.rows (c.get_mut.follows.lender c.change.new.self)
    c.self.invariant.0 c.self.invariant.2 (changed_session c.args.change) (change c) c.unwrap-row.result.now
wrote c =
    let there : get nat_eq c.self.inside.rows c.session_of-session.result ≡ Some c.unwrap-row.result.now =
    sym c.get_mut.ensures.value ∙ ap option_copied_mut c.unwrap-row.ensures in
    let holds = c.get_mut.follows.holds c.change.new.self in
    written c.self.inside.rows (c.get_mut.follows.lender c.change.new.self) c.self.invariant.0 c.self.invariant.2
    (changed_session c.args.change) (change c) c.unwrap-row.result.now c.change.new.self
    (changed_keeps c.args.change c.args.at) (rw c.session_of-session.ensures at there) c.change.ensures
    (rw c.session_of-session.ensures at holds.0) holds.1

-- what the session accepted before, and after
was : (c : After-change-2) → c.seat.result.now ≡ c.unwrap-row.result.now.seat
was c = c.seat.ensures

is : (c : After-change-2) → c.seat-2.result.now ≡ (change c c.unwrap-row.result.now).seat
is c = c.seat-2.ensures ∙ ap (λ row. row.seat) c.change.ensures

pub change-requires-2 : goal.change-requires-2
change-requires-2 c message below =
    let there : get nat_eq c.self.inside.rows c.session_of-session.result ≡ Some c.unwrap-row.result.now =
    sym c.get_mut.ensures.value ∙ ap option_copied_mut c.unwrap-row.ensures in
    let found = sym (got c.self.inside.rows c.self.invariant.2 c.session_of-session.result) ∙ there in
    rw c.seat.ensures
    (may-move c.self.inside.accepting.lists (values c.self.inside.rows) c.session_of-session.result message
    c.unwrap-row.result.now (accepts message c.unwrap-row.result.now) _ c.self.invariant.1 below found refl)

pub invariant_of-self : goal.invariant_of-self
invariant_of-self c = (
  (wrote c).rising,
  rw (wrote c).changed
      (changed-lists c.self.inside.accepting.lists c.change-2.new.self.lists (values c.self.inside.rows)
      (changed_session c.args.change) (change c) c.unwrap-row.result.now (changed_keeps c.args.change c.args.at)
      c.self.invariant.0 (wrote c).found c.self.invariant.1
      (rw (was c, is c, c.session_of-session.ensures) at c.change-2.ensures.lists) c.change-2.ensures.room),
  (wrote c).numbered,
)

pub returns : goal.returns
returns c = rw (← c.self.view_is) (wrote c).changed
