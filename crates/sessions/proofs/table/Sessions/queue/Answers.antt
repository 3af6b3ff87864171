use Rattle.std.proofs.Common.{◌≡◌, ◌∙◌, Some, sym, ap, nat_eq}
use Rattle.std.specs.Option.{option_copied_mut}
use Rattle.indexmap.specs.IndexMap.{get}
use Rattle.kom_types.specs.Sessions.{Session, queue, waiting_limits}
use Rattle.sessions.proofs.Accepted.{still-accepting}
use Rattle.sessions.proofs.Keeping.{queued_keeps, queued_silent}
use Rattle.sessions.proofs.Numbered.{lent, Written, written}
use Rattle.sessions.proofs.table.Sessions.queue.Goals as goal

abbrev change : goal.After-self-1 → Session → Session
change c = queue waiting_limits c.args.entry c.args.item

wrote : (c : goal.After-self-1) → Written c.self.inside.rows (c.get_mut.follows.lender c.queue.new.self)
    c.self.invariant.0 c.self.invariant.2 c.args.session (change c) c.unwrap-row.result.now
wrote c =
    let there : get nat_eq c.self.inside.rows c.args.session ≡ Some c.unwrap-row.result.now =
    sym c.get_mut.ensures.value ∙ ap option_copied_mut c.unwrap-row.ensures in
    let holds = c.get_mut.follows.holds c.queue.new.self in
    written c.self.inside.rows (c.get_mut.follows.lender c.queue.new.self) c.self.invariant.0 c.self.invariant.2
    c.args.session (change c) c.unwrap-row.result.now c.queue.new.self
    (queued_keeps waiting_limits c.args.entry c.args.item) there c.queue.ensures.row holds.0 holds.1

pub unwrap-row-requires : goal.unwrap-row-requires
unwrap-row-requires c =
    lent c.self.inside.rows c.self.invariant.2 c.args.session c.get_mut.result c.get_mut.ensures.value
    (rw c.self.view_is c.requires.there)

pub invariant_of-self : goal.invariant_of-self
invariant_of-self c = (
  (wrote c).rising,
  rw (wrote c).changed (still-accepting _ c.args.session (change c) _
      (queued_keeps waiting_limits c.args.entry c.args.item) (queued_silent waiting_limits c.args.entry c.args.item)
      c.self.invariant.1),
  (wrote c).numbered,
)

pub returns-clause-taken : goal.returns-clause-taken
returns-clause-taken c = rw (← c.self.view_is, (wrote c).found) c.queue.ensures.taken

pub returns-clause-rows : goal.returns-clause-rows
returns-clause-rows c = rw (← c.self.view_is) (wrote c).changed
